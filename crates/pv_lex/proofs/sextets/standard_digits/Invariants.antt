use Rattle.std.proofs.Common.{◌≡◌, ◌++◌, drop}
use Rattle.pv_lex.specs.Unspaced.{standard_digits}
use Rattle.pv_lex.proofs.sextets.standard_digits.Given as goal

abbrev pub invariant-loop-b : goal.invariant-loop-b
invariant-loop-b l = l.out.items ++ standard_digits (drop l.b-index l.text) ≡ standard_digits l.text
