-- The goals of `fill` that the check leaves.
use Rattle.std.proofs.Common.{◌≡◌, ◌+◌, List, [], drop, Some, None, refl, sym, ap, ◌∙◌, arith}
use Rattle.std.proofs.Common.{option_and_then}
use Rattle.sr_caveat.specs.Patterns.{Template, caveats, listed_caveats}
use Rattle.sr_caveat.specs.Lemmas.Told.{if_ok_is, listed_same}
use Rattle.sr_caveat.specs.View.{listed_templates, view_template}
use Rattle.sr_caveat.specs.Lemmas.Falls.{template_at}
use Rattle.sr_caveat.specs.Lemmas.Dropping.{drop_is, drop_end}
use Rattle.sr_caveat.specs.Lemmas.Folding.{folded_on, folded_stop, folded_whole}
use Rattle.sr_pass.specs.Filling.{filled, all_filled, with_first, reference_with}
use Rattle.sr_pass.proofs.Filled.{put_first, folded_values}
use Rattle.sr_pass.proofs.filling.+fill.Goals as goal

pub fill_all-fill-requires : goal.fill_all-fill-requires
fill_all-fill-requires t c = (
  omega (
    arith,
    template_at c.args.templates.now c.loop-template.template-index c.template-item.result (omega arith)
        c.template-item.is,
  ),
  tt,
)

pub fill_all-returns-in_default : goal.fill_all-returns-in_default
fill_all-returns-in_default t c =
    let rest = λ (ts : List Template). all_filled (listed_templates ts) c.args.bindings.now in
    let all = c.args.templates.now in
    let i = c.loop-template.template-index in
    let later = rest (drop (i + 1) all) in
    let next = ap rest (drop_is all i c.template-item.result (omega arith) c.template-item.is) in
    let none : None ≡ filled c.template-item.result c.args.bindings.now = sym c.in_default.is ∙ c.in_ok-value.ensures in
    folded_stop put_first c.loop-template.values.items _ (rest all) (λ p. refl) (ap (λ o. with_first o later) none
    ∙ sym next)
    c.loop-template.invariant

pub fill_all-loop-template-preserved : goal.fill_all-loop-template-preserved
fill_all-loop-template-preserved t c =
    let rest = λ (ts : List Template). all_filled (listed_templates ts) c.args.bindings.now in
    let all = c.args.templates.now in
    let i = c.loop-template.template-index in
    let later = rest (drop (i + 1) all) in
    let next = ap rest (drop_is all i c.template-item.result (omega arith) c.template-item.is) in
    let some : Some c.in-Some.value ≡ filled c.template-item.result c.args.bindings.now = sym c.in-Some.is
    ∙ c.in_ok-value.ensures in
    folded_on put_first c.loop-template.values.items _ c.in-Some.value _ later (rest all) c.in_ok-push.ensures.items
    (ap (λ o. with_first o later) some ∙ sym next) c.loop-template.invariant

pub fill_all-returns : goal.fill_all-returns
fill_all-returns t c =
    let rest = λ (ts : List Template). all_filled (listed_templates ts) c.args.bindings.now in
    let all = c.args.templates.now in
    folded_whole put_first c.loop-template.values.items (Some []) _ (rest all) _
    (folded_values c.loop-template.values.items)
    (sym (ap rest (drop_end all c.loop-template.template-index c.loop-template-test.false))) c.loop-template.invariant

pub fill-returns-in_ok-fill-in-Attenuate : goal.fill-returns-in_ok-fill-in-Attenuate
fill-returns-in_ok-fill-in-Attenuate t c =
    let bs = c.args.bindings.now in
    if_ok_is c.reference_with.result _ _
    (ap (option_and_then (reference_with c.deref-in-Attenuate.result.now)) c.in_ok-fill-in-Attenuate.ensures
    ∙ ap (λ cs. option_and_then (reference_with cs) (filled c.deref.result.now bs))
    (c.deref-in-Attenuate.ensures.value ∙ sym (listed_same c.in-Attenuate.caveats.items))
    ∙ ap (λ u. option_and_then (reference_with (listed_caveats (caveats c.in-Attenuate.caveats.items))) (filled u bs))
    c.deref.ensures
    ∙ ap (λ u. filled u bs) (sym (ap view_template c.in-Attenuate.is) ∙ c.template.view_is))
    c.reference_with.ensures
