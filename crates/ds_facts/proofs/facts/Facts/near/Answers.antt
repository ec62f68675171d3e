use Rattle.std.proofs.Common.{List, ap, sym, ◌∙◌}
use Rattle.pv_value.specs.Plain.{Plain, sequence, plains}
use Rattle.pv_value.specs.View.{view_node}
use Rattle.ds_shape.specs.Outlines.{Outline}
use Rattle.ds_facts.proofs.Fewest.{fewest_sequence}
use Rattle.ds_facts.proofs.Told.{near_sequence, then_if}
use Rattle.ds_facts.proofs.facts.Facts.near.Goals as goal

pub returns-in-Seq-clause-near : goal.returns-in-Seq-clause-near
returns-in-Seq-clause-near c =
    then_if c.near_all.result
    (λ near f vs h.
    near_sequence vs c.args.outline.now c.deref.result.now c.as_slice.result.now c.args.constants.now near
    (c.deref.ensures.value ∙ ap (λ (o : Outline). o.constants) c.outline.view_is)
    (sym c.constants.view_is ∙ ap view_node c.in-Seq.is
    ∙ ap (λ (xs : List Plain). sequence (plains xs)) (sym c.as_slice.ensures.same))
    (f vs h))
    c.near_all.ensures.near

pub returns-in-Seq-clause-size : goal.returns-in-Seq-clause-size
returns-in-Seq-clause-size c =
    then_if c.near_all.result
    (λ near f. f
    ∙ fewest_sequence c.args.self.now c.args.outline.now c.deref.result.now c.as_slice.result.now c.args.constants.now
    (c.deref.ensures.value ∙ ap (λ (o : Outline). o.constants) c.outline.view_is)
    (sym c.constants.view_is ∙ ap view_node c.in-Seq.is
    ∙ ap (λ (xs : List Plain). sequence (plains xs)) (sym c.as_slice.ensures.same)))
    c.near_all.ensures.size
