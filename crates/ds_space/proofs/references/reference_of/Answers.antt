use Rattle.std.proofs.Common.{arith, sym, ap, ◌∙◌}
use Rattle.pv_value.specs.Plain.{sequence, plains}
use Rattle.pv_value.specs.View.{view_node}
use Rattle.ds_space.specs.References.{reference_of}
use Rattle.ds_space.proofs.Shapes.{too_short}
use Rattle.ds_space.proofs.references.reference_of.Goals as goal

pub returns-then-items-lt2 : goal.returns-then-items-lt2
returns-then-items-lt2 c =
    sym (too_short c.as_slice-items.result.now (omega arith))
    ∙ ap (λ xs. reference_of (sequence (plains xs))) c.as_slice-items.ensures.same
    ∙ ap reference_of (sym (ap view_node c.in-Seq.is) ∙ c.value.view_is)
