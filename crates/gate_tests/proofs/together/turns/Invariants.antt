use Rattle.turn_gate.specs.Gates.{view, IsPassOf}
use Rattle.turn_gate.specs.Passes.{IsSame}
use Rattle.gate_tests.proofs.together.turns.Given as goal

abbrev pub invariant-loop-turn : goal.invariant-loop-turn
invariant-loop-turn g l = IsPassOf l.gate l.pass × IsSame (view l.initial.pass) (view l.pass)
