-- The goals of `count_size` that the check leaves.
use Rattle.std.proofs.Common.{arith}
use Rattle.pv_value.specs.Lemmas.WeightLaws.{count_size_small, count_size_more}
use Rattle.sr_weight.proofs.labels.+count_size.Goals as goal

pub returns-then-n-lt128 : goal.returns-then-n-lt128
returns-then-n-lt128 t c = omega (arith, count_size_small c.args.n (omega arith))

pub returns : goal.returns
returns t c = omega (arith, c.count_size.ensures, c.saturating_add.ensures, count_size_more c.args.n (omega arith))
