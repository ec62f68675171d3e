use Rattle.gate_tests.specs.Families.{AreOf}
use Rattle.gate_tests.proofs.orders.one_of_ten_dropped.Given as goal

abbrev pub invariant-loop : goal.invariant-loop
invariant-loop g l = AreOf l.gate l.first l.others.items

abbrev pub invariant-loop-2 : goal.invariant-loop-2
invariant-loop-2 g l = AreOf l.gate l.first l.others.items
