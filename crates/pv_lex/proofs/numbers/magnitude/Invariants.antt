use Rattle.std.proofs.Common.{◌≡◌, drop}
use Rattle.pv_lex.specs.Numbers.{digits_value}
use Rattle.pv_lex.proofs.numbers.magnitude.Given as goal

abbrev pub invariant-loop-b : goal.invariant-loop-b
invariant-loop-b l = digits_value l.size (drop l.b-index l.digits) ≡ digits_value 0 l.digits
