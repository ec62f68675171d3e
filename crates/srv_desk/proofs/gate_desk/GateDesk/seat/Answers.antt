use Rattle.std.proofs.Common.{ap, ◌∙◌}
use Rattle.turn_gate.specs.Gates.{view}
use Rattle.turn_gate.specs.Passes.{own_pairs}
use Rattle.srv_desk.proofs.Seating.{nothing_yet}
use Rattle.srv_desk.proofs.gate_desk.GateDesk.seat.Goals as goal

pub returns-clause-new : goal.returns-clause-new
returns-clause-new g c =
    ap (λ p. own_pairs (view p)) c.new.ensures.pass ∙ nothing_yet _ _ c.in-Ok.ensures.new
