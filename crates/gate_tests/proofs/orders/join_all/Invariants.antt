use Rattle.turn_gate.specs.Gates.{view}
use Rattle.gate_tests.specs.Families.{AreOf, NoneIsLost}
use Rattle.gate_tests.proofs.orders.join_all.Given as goal

abbrev pub invariant-loop-pass : goal.invariant-loop-pass
invariant-loop-pass l =
    AreOf l.gate l.first l.others.items
    × (NoneIsLost (view l.initial.first) l.initial.others.items → NoneIsLost (view l.first) l.others.items)

abbrev pub decreases-loop-pass : goal.decreases-loop-pass
decreases-loop-pass l = goal.left-loop-pass l
