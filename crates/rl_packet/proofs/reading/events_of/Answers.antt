use Rattle.std.proofs.Common.{arith}
use Rattle.rl_packet.proofs.Refusals.{no_events, handed_on}
use Rattle.rl_packet.proofs.reading.events_of.Goals as goal

pub returns-in_err-turn_event_of-clause-bad : goal.returns-in_err-turn_event_of-clause-bad
returns-in_err-turn_event_of-clause-bad c =
    let f = c.in_err-turn_event_of.field-0.0 in
    handed_on _ _ f c.from_residual.ensures.1
    (no_events c.args.dialect c.args.items.now c.loop-item.item-index c.item-item.result (omega arith) c.item-item.is f
    c.in_err-turn_event_of.ensures.bad)
