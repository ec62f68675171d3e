use Rattle.std.proofs.Common.{◌≡◌, false, arith}
use Rattle.dq_core.specs.Hearing.{turn_heard, is_older}
use Rattle.dq_core.proofs.Turning.{handed_on, turn_fault, fault_more}
use Rattle.dq_core.proofs.hearing.Hearing.turn.Goals as goal

pub returns-in_err-event : goal.returns-in_err-event
returns-in_err-event c =
    let f = c.in_err-event.field-0.0 in
    let newer : is_older c.args.turn.now.dialect ≡ false = cc in
    handed_on c.from_residual.result (turn_heard c.args.turn.now c.args.self.now) f _ c.from_residual.ensures.1
    (turn_fault c.args.turn.now c.as_slice-event-items.result.now c.args.self.now f
    c.as_slice-event-items.ensures.events newer
    (fault_more c.as_slice-event-items.result.now c.args.self.now c.loop-event.event-index c.event-item.result
    c.loop-event.self f
    (omega arith) c.event-item.is c.loop-event.invariant c.in_err-event.ensures))
