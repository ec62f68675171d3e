-- One turn more.
use Rattle.std.proofs.Common.{◌≡◌, ◌*◌, ◌+◌, ◌++◌, suc, arith, ap, ◌∙◌}
use Rattle.std.specs.List.{flat_map}
use Rattle.pv_binary.specs.Written.{written}
use Rattle.sc_load.specs.Loads.{observes, events_of, sent_by, turn_of, turns_of, connection_of}
use Rattle.sc_load.proofs.Turns.{more_written}
use Rattle.sc_load.proofs.loads.observe_all.Goals as goal

pub loop-turn-preserved : goal.loop-turn-preserved
loop-turn-preserved c =
    let l = c.loop-turn in
    let n = c.args.n in
    let first = 500 * l.turn in
    let one : suc l.turn ≡ l.turn + 1 = omega arith in
    let events = c.in_ok-events.ensures ∙ ap (events_of observes first) c.min.ensures in
    c.in_ok-send.ensures
    ∙ ap (λ es. l.script.items ++ flat_map written (sent_by (connection_of first) es)) events
    ∙ more_written c.args.script.now.items l.script.items (turns_of observes n l.turn) (turn_of observes n l.turn)
    l.invariant
    ∙ ap (λ k. c.args.script.now.items ++ flat_map written (turns_of observes n k)) one
