use Rattle.std.proofs.Common.{◌≡◌, length, true, ◌&&◌, sym, ap, ◌∙◌}
use Rattle.std.specs.Arc.{arc_value}
use Rattle.pv_value.specs.Plain.{record_of, sequence, plains, listed}
use Rattle.pv_value.specs.View.{view_node}
use Rattle.pv_value.specs.declared.Rec.{Rec}
use Rattle.pv_words.specs.Parts.{same}
use Rattle.pv_value.specs.Lemmas.Listed.{listed-plains}
use Rattle.dp_pattern.specs.Matching.{is_met_by, is_of}
use Rattle.dp_pattern.proofs.parts.is_of.Goals as goal

pub returns-then-eq : goal.returns-then-eq
returns-then-eq c =
    let rec = arc_value c.in-InRecord-Rec.rec in
    let label = c.in-InRecord-Rec.label in
    let extent = c.in-InRecord-Rec.extent in
    let v : record_of rec.label (plains rec.fields.items) ≡ c.args.value.now =
    sym (ap view_node c.in-InRecord-Rec.is-1) ∙ c.value.view_is in
    let alike : true ≡ same rec.label label = c.if-eq.ensures ∙ ap (λ (r : Rec). same r.label label) c.deref.ensures in
    let many : length c.as_slice.result.now ≡ length (listed (plains rec.fields.items)) =
    ap length c.as_slice.ensures.value ∙ ap (λ (r : Rec). length r.fields.items) c.deref-then-eq.ensures
    ∙ ap length (sym (listed-plains rec.fields.items)) in
    c.is_met_by.ensures
    ∙ ap (is_met_by extent) many
    ∙ (λ i. alike i && is_met_by extent (length (listed (plains rec.fields.items))))
    ∙ (λ i. is_of (sym c.in-InRecord-Rec.is-0 i) (v i))

pub returns-in-InSequence-Seq : goal.returns-in-InSequence-Seq
returns-in-InSequence-Seq c =
    let v : sequence (plains c.in-InSequence-Seq.items) ≡ c.args.value.now =
    sym (ap view_node c.in-InSequence-Seq.is-1) ∙ c.value.view_is in
    c.is_met_by-in-InSequence-Seq.ensures
    ∙ ap (is_met_by c.in-InSequence-Seq.extent)
    (c.len.ensures ∙ ap length (sym (listed-plains c.in-InSequence-Seq.items)))
    ∙ (λ i. is_of (sym c.in-InSequence-Seq.is-0 i) (v i))
