use Rattle.std.proofs.Common.{◌≡◌}
use Rattle.turn_gate.proofs.gate.Gate.tell.Given as goal

abbrev pub invariant-loop-place : goal.invariant-loop-place
invariant-loop-place g l = (l.pass.table_id ≡ l.initial.pass.table_id) × (l.pass.me ≡ l.initial.pass.me)
