use Rattle.std.proofs.Common.{◌≡◌, map, false, ap, sym, subst, ◌∙◌}
use Rattle.std.specs.List.{AllByRecursion}
use Rattle.sr_caveat.specs.Caps.{Cap, attenuated, IsReadBack}
use Rattle.sr_caveat.specs.Written.{caveat_of}
use Rattle.gk_sturdy.specs.Answers.{Accepted}
use Rattle.gk_sturdy.specs.Lemmas.Sound.{all_read}
use Rattle.gk_sturdy.proofs.Weighed.{heavy, within, summed, counted}
use Rattle.gk_sturdy.proofs.answering.if_within.Goals as goal

pub returns-then-weight-gt-REFERENCE_WEIGHT : goal.returns-then-weight-gt-REFERENCE_WEIGHT
returns-then-weight-gt-REFERENCE_WEIGHT c =
    let behind = map (caveat_of false) c.args.behind.now in
    let few = counted c.args.cap.now c.as_slice.result.now c.args.behind.now c.saturating_add-count.result
    (c.as_slice.ensures ∙ ap (λ (x : Cap). x.caveats) c.cap.view_is) c.saturating_add-count.ensures
    c.if-count-gt-REFERENCE_CAVEATS.false in
    heavy (attenuated behind c.args.cap.now) c.saturating_add-weight.result few c.if-weight-gt-REFERENCE_WEIGHT.true
    (summed c.args.cap.now behind c.deref.result.now c.cap_weight.result c.weight_of_caveats.result
    c.saturating_add-weight.result (c.deref.ensures.value ∙ c.in_ok-behind.ensures) c.cap_weight.ensures
    c.weight_of_caveats.ensures c.saturating_add-weight.ensures)

pub attenuated-requires : goal.attenuated-requires
attenuated-requires c =
    subst (AllByRecursion IsReadBack) (sym (c.deref-2.ensures.value ∙ c.in_ok-behind.ensures))
    (all_read c.args.behind.now)

pub returns : goal.returns
returns c =
    let behind = map (caveat_of false) c.args.behind.now in
    let few = counted c.args.cap.now c.as_slice.result.now c.args.behind.now c.saturating_add-count.result
    (c.as_slice.ensures ∙ ap (λ (x : Cap). x.caveats) c.cap.view_is) c.saturating_add-count.ensures
    c.if-count-gt-REFERENCE_CAVEATS.false in
    let given : c.in_ok-attenuated.field-0 ≡ attenuated behind c.args.cap.now =
    c.in_ok-attenuated.ensures
    ∙ ap (λ cs. attenuated cs c.args.cap.now) (c.deref-2.ensures.value ∙ c.in_ok-behind.ensures) in
    ap Accepted given
    ∙ within (attenuated behind c.args.cap.now) c.saturating_add-weight.result few c.if-weight-gt-REFERENCE_WEIGHT.false
    (summed c.args.cap.now behind c.deref.result.now c.cap_weight.result c.weight_of_caveats.result
    c.saturating_add-weight.result (c.deref.ensures.value ∙ c.in_ok-behind.ensures) c.cap_weight.ensures
    c.weight_of_caveats.ensures c.saturating_add-weight.ensures)
