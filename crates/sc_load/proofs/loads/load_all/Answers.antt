-- One turn more.
use Rattle.std.proofs.Common.{◌≡◌, ◌*◌, ◌+◌, ◌<◌, ◌++◌, suc, arith, ap, subst, ◌∙◌}
use Rattle.std.specs.List.{flat_map}
use Rattle.pv_binary.specs.Written.{written}
use Rattle.sc_load.specs.Loads.{after, loads, events_of, sent_by, turn_of, turns_of, connection_of}
use Rattle.sc_load.proofs.Turns.{before, behind, more_written}
use Rattle.sc_load.proofs.loads.load_all.Goals as goal

pub loop-turn-preserved : goal.loop-turn-preserved
loop-turn-preserved c =
    let l = c.loop-turn in
    let s = c.args.start in
    let n = c.args.n in
    let first = 500 * l.turn in
    let one : suc l.turn ≡ l.turn + 1 = omega arith in
    let there = subst (λ k. l.turn < k) c.div_ceil-turn-end.ensures c.loop-turn-test.true in
    let drawn : l.draws.number ≡ after s first = l.invariant.draws ∙ ap (after s) (before n l.turn there) in
    let events = c.in_ok-events.ensures.events s drawn ∙ ap (events_of (loads s) first) c.min.ensures in record {
      script = c.in_ok-send.ensures
          ∙ ap (λ es. l.script.items ++ flat_map written (sent_by (connection_of first) es)) events
          ∙ more_written c.args.script.now.items l.script.items (turns_of (loads s) n l.turn)
          (turn_of (loads s) n l.turn) l.invariant.script
          ∙ ap (λ k. c.args.script.now.items ++ flat_map written (turns_of (loads s) n k)) one;
      draws = c.in_ok-events.ensures.draws s drawn ∙ ap (λ k. after s (first + k)) c.min.ensures
          ∙ ap (after s) (behind n l.turn there);
    }
