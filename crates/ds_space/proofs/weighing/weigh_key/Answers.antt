use Rattle.std.proofs.Common.{arith, ap, length}
use Rattle.ds_space.proofs.Shapes.{no_key}
use Rattle.ds_space.proofs.weighing.weigh_key.Goals as goal

pub returns-in_default-as_slice : goal.returns-in_default-as_slice
returns-in_default-as_slice c =
    rw (← c.key.view_is, c.in-Seq.is, no_key c.in-Seq.items (λ e. omega (arith, ap length c.as_slice.ensures.same)))
    (omega arith)

pub returns-in_default-as_slice-2 : goal.returns-in_default-as_slice-2
returns-in_default-as_slice-2 c =
    rw (← c.key.view_is, c.in-Seq.is, no_key c.in-Seq.items (λ e. omega (arith, ap length c.as_slice.ensures.same)))
    (omega arith)
