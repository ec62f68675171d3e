-- The goals of `caveat_value` that the check leaves.
use Rattle.std.proofs.Common.{◌+◌, List, drop, sym, ap, ◌∙◌, arith}
use Rattle.pv_value.specs.Plain.{then_more, no_more}
use Rattle.sr_caveat.specs.declared.Rewrite.{Rewrite}
use Rattle.sr_caveat.specs.Lemmas.Dropping.{drop_is, drop_end}
use Rattle.sr_caveat.specs.Lemmas.Folding.{folded_on, folded_whole, folded_plains}
use Rattle.sr_caveat.specs.Patterns.{Template, Caveat, caveats}
use Rattle.sr_caveat.specs.Spelled.{template_values, caveat_values, rewrite_values}
use Rattle.sr_caveat.specs.View.{listed_templates, listed_rewrites}
use Rattle.sr_caveat.specs.Lemmas.Falls.{template_at, caveat_at, rewrite_at}
use Rattle.sr_caveat.proofs.spelling.+caveat_value.Goals as goal

pub template_values-template_value-requires : goal.template_values-template_value-requires
template_values-template_value-requires t c = (
  omega (
    arith,
    template_at c.args.templates.now c.loop-template.template-index c.template-item.result (omega arith)
        c.template-item.is,
  ),
  tt,
)

pub template_values-loop-template-preserved : goal.template_values-loop-template-preserved
template_values-loop-template-preserved t c =
    let rest = λ (ts : List Template). template_values (listed_templates ts) in
    let all = c.args.templates.now in
    let i = c.loop-template.template-index in
    let later = rest (drop (i + 1) all) in
    let next = ap rest (drop_is all i c.template-item.result (omega arith) c.template-item.is) in
    folded_on then_more c.loop-template.values.items _ _ _ later (rest all) c.in_ok-push.ensures.items
    (ap (λ v. then_more v later) c.in_ok-template_value.ensures ∙ sym next) c.loop-template.invariant

pub template_values-returns : goal.template_values-returns
template_values-returns t c =
    let rest = λ (ts : List Template). template_values (listed_templates ts) in
    let all = c.args.templates.now in
    folded_whole then_more c.loop-template.values.items no_more _ (rest all) _
    (folded_plains c.loop-template.values.items)
    (sym (ap rest (drop_end all c.loop-template.template-index c.loop-template-test.false))) c.loop-template.invariant

pub caveat_values-caveat_value-requires : goal.caveat_values-caveat_value-requires
caveat_values-caveat_value-requires t c = (
  omega (
    arith,
    caveat_at c.args.list.now c.loop-caveat.caveat-index c.caveat-item.result (omega arith)
        c.caveat-item.is,
  ),
  tt,
)

pub caveat_values-loop-caveat-preserved : goal.caveat_values-loop-caveat-preserved
caveat_values-loop-caveat-preserved t c =
    let rest = λ (cs : List Caveat). caveat_values (caveats cs) in
    let all = c.args.list.now in
    let i = c.loop-caveat.caveat-index in
    let later = rest (drop (i + 1) all) in
    let next = ap rest (drop_is all i c.caveat-item.result (omega arith) c.caveat-item.is) in
    folded_on then_more c.loop-caveat.values.items _ _ _ later (rest all) c.in_ok-push.ensures.items
    (ap (λ v. then_more v later) c.in_ok-caveat_value.ensures ∙ sym next) c.loop-caveat.invariant

pub caveat_values-returns : goal.caveat_values-returns
caveat_values-returns t c =
    let rest = λ (cs : List Caveat). caveat_values (caveats cs) in
    let all = c.args.list.now in
    folded_whole then_more c.loop-caveat.values.items no_more _ (rest all) _ (folded_plains c.loop-caveat.values.items)
    (sym (ap rest (drop_end all c.loop-caveat.caveat-index c.loop-caveat-test.false))) c.loop-caveat.invariant

pub rewrite_values-rewrite_value-requires : goal.rewrite_values-rewrite_value-requires
rewrite_values-rewrite_value-requires t c = (
  omega (
    arith,
    rewrite_at c.args.rewrites.now c.loop-rewrite.rewrite-index c.rewrite-item.result (omega arith)
        c.rewrite-item.is,
  ),
  tt,
)

pub rewrite_values-loop-rewrite-preserved : goal.rewrite_values-loop-rewrite-preserved
rewrite_values-loop-rewrite-preserved t c =
    let rest = λ (rs : List Rewrite). rewrite_values (listed_rewrites rs) in
    let all = c.args.rewrites.now in
    let i = c.loop-rewrite.rewrite-index in
    let later = rest (drop (i + 1) all) in
    let next = ap rest (drop_is all i c.rewrite-item.result (omega arith) c.rewrite-item.is) in
    folded_on then_more c.loop-rewrite.values.items _ _ _ later (rest all) c.in_ok-push.ensures.items
    (ap (λ v. then_more v later) c.in_ok-rewrite_value.ensures ∙ sym next) c.loop-rewrite.invariant

pub rewrite_values-returns : goal.rewrite_values-returns
rewrite_values-returns t c =
    let rest = λ (rs : List Rewrite). rewrite_values (listed_rewrites rs) in
    let all = c.args.rewrites.now in
    folded_whole then_more c.loop-rewrite.values.items no_more _ (rest all) _
    (folded_plains c.loop-rewrite.values.items)
    (sym (ap rest (drop_end all c.loop-rewrite.rewrite-index c.loop-rewrite-test.false))) c.loop-rewrite.invariant
