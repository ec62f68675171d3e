use Rattle.std.proofs.Common.{◌∙◌, arith}
use Rattle.ps_check.proofs.Drops.{same_at_end}
use Rattle.ps_check.proofs.subjects.are_same.Goals as goal

pub returns : goal.returns
returns c =
    c.is_empty.ensures
    ∙ same_at_end c.args.values.now c.loop-value.left.now c.args.others.now c.loop-value.value-index
    (omega (arith, c.loop-value-test.false, c.loop-value.auto.value-index-end)) c.loop-value.invariant
