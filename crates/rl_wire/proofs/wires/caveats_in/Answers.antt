-- What stands behind two items of a sequence.
use Rattle.std.proofs.Common.{arith, sym, ap, ◌∙◌}
use Rattle.pv_value.specs.Plain.{sequence, plains}
use Rattle.pv_value.specs.View.{view_node}
use Rattle.rl_wire.specs.Crossing.{caveats_in}
use Rattle.rl_wire.proofs.References.{none_behind, behind_two}
use Rattle.rl_wire.proofs.wires.caveats_in.Goals as goal

pub returns-then-items-lt2 : goal.returns-then-items-lt2
returns-then-items-lt2 c =
    sym (none_behind c.as_slice-items.result.now (omega arith))
    ∙ ap (λ xs. caveats_in (sequence (plains xs))) c.as_slice-items.ensures.same
    ∙ ap caveats_in (sym (ap view_node c.in-Seq.is) ∙ c.value.view_is)

pub returns : goal.returns
returns c =
    behind_two c.as_slice-items.result.now (omega arith)
    ∙ ap (λ xs. caveats_in (sequence (plains xs))) c.as_slice-items.ensures.same
    ∙ ap caveats_in (sym (ap view_node c.in-Seq.is) ∙ c.value.view_is)
