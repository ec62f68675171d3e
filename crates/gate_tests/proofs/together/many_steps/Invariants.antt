use Rattle.turn_gate.specs.Gates.{view, IsPassOf}
use Rattle.turn_gate.specs.Passes.{IsSame}
use Rattle.gate_tests.proofs.together.many_steps.Given as goal

abbrev pub invariant-loop : goal.invariant-loop
invariant-loop g l = IsPassOf l.gate l.pass × IsSame (view l.initial.pass) (view l.pass)
