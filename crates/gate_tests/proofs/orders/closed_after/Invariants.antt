use Rattle.turn_gate.specs.Gates.{view}
use Rattle.gate_tests.specs.Families.{AreOf, NoneIsLost}
use Rattle.gate_tests.proofs.orders.closed_after.Given as goal

abbrev pub invariant-loop-place : goal.invariant-loop-place
invariant-loop-place g l = AreOf l.gate l.first l.others.items × NoneIsLost (view l.first) l.others.items
