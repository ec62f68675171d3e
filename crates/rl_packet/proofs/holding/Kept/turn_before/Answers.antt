use Rattle.std.proofs.Common.{subst, sym, ◌++◌, drop, length, ◌-◌, arith}
use Rattle.rl_packet.specs.Kept.{IsKept}
use Rattle.rl_packet.proofs.Keeping.{drop_back}
use Rattle.rl_packet.proofs.holding.Kept.turn_before.Goals as goal

pub loop-done-preserved : goal.loop-done-preserved
loop-done-preserved c = λ later k.
    subst (λ es. IsKept (es ++ later) c.event_before.new.self)
    (sym (drop_back c.args.events.now c.loop-done.done c.index-events-count.result
    (omega (arith, c.loop-done.auto.done-end, c.loop-done-test.true)) c.index-events-count.is))
    (c.in_ok-event_before.ensures (drop (length c.args.events.now - c.loop-done.done) c.args.events.now ++ later)
    (c.loop-done.invariant later k))
