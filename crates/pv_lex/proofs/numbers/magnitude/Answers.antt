use Rattle.std.proofs.Common.{arith}
use Rattle.pv_lex.proofs.Digits.{one_more}
use Rattle.pv_lex.proofs.numbers.magnitude.Goals as goal

pub returns-then-size-ge-NEAR_TOP : goal.returns-then-size-ge-NEAR_TOP
returns-then-size-ge-NEAR_TOP c =
    omega (arith, one_more c.loop-b.size c.loop-b.b-index c.args.digits.now (omega arith), c.loop-b.invariant)
