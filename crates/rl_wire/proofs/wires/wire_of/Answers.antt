-- A sequence of less than two items is no reference, and one of the sender's own has just two.
use Rattle.std.proofs.Common.{arith, sym, ap, ◌∙◌, Some}
use Rattle.pv_value.specs.Plain.{sequence, plains}
use Rattle.pv_value.specs.View.{view_node}
use Rattle.rl_wire.specs.Crossing.{wire_of}
use Rattle.rl_wire.proofs.References.{too_short, own_too_long}
use Rattle.rl_wire.proofs.wires.wire_of.Goals as goal

pub returns-then-items-lt2 : goal.returns-then-items-lt2
returns-then-items-lt2 c =
    sym (too_short c.as_slice-items.result.now (omega arith))
    ∙ ap (λ xs. wire_of (sequence (plains xs))) c.as_slice-items.ensures.same
    ∙ ap wire_of (sym (ap view_node c.in-Seq.is) ∙ c.value.view_is)

pub returns-in_default-whose : goal.returns-in_default-whose
returns-in_default-whose c =
    sym (own_too_long c.as_slice-items.result.now c.index-items-0.result c.if-items-eq2.false c.index-items-0.is
    (sym c.number_in.ensures ∙ c.in_ok-whose.was ∙ ap Some c.in-0.is))
    ∙ ap (λ xs. wire_of (sequence (plains xs))) c.as_slice-items.ensures.same
    ∙ ap wire_of (sym (ap view_node c.in-Seq.is) ∙ c.value.view_is)
