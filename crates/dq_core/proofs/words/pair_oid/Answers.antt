use Rattle.std.proofs.Common.{◌≡◌, None, sym, ap, ◌∙◌, subst, arith}
use Rattle.std.proofs.lemmas.Bool.{ltb-true, ltb-false}
use Rattle.pv_value.specs.Plain.{Plain, sequence, plains}
use Rattle.pv_value.specs.View.{view_node}
use Rattle.dq_core.specs.Words.{pair_oid}
use Rattle.dq_core.proofs.Shapes.{few_items, many_items}
use Rattle.dq_core.proofs.words.pair_oid.Goals as goal

pub returns-in_default-as_slice : goal.returns-in_default-as_slice
returns-in_default-as_slice c =
    let P : Plain → Type 0 = λ v. None ≡ pair_oid v in
    let seen = ap (λ ys. sequence (plains ys)) c.as_slice.ensures.same
    ∙ sym (ap view_node c.in-Seq.is) ∙ c.pair.view_is in
    subst P seen (few_items c.as_slice.result.now (omega (arith, ltb-true, ltb-false, c.in_default-as_slice.len_below)))

pub returns-in_default-as_slice-2 : goal.returns-in_default-as_slice-2
returns-in_default-as_slice-2 c =
    let P : Plain → Type 0 = λ v. None ≡ pair_oid v in
    let seen = ap (λ ys. sequence (plains ys)) c.as_slice.ensures.same
    ∙ sym (ap view_node c.in-Seq.is) ∙ c.pair.view_is in
    subst P seen
    (many_items c.as_slice.result.now (omega (arith, ltb-true, ltb-false, c.in_default-as_slice.len_at_least)))
