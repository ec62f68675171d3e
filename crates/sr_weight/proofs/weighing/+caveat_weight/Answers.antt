-- The goals of `caveat_weight` that the check leaves.
use Rattle.std.proofs.Common.{◌≡◌, ◌+◌, ◌<◌, min, List, map, take, sym, ap, ◌∙◌, codes, arith}
use Rattle.sr_caveat.specs.Lemmas.Falls.{template_at, caveat_at, rewrite_at}
use Rattle.pv_value.specs.Plain.{Plain, symbol}
use Rattle.pv_value.specs.View.{key_and_value}
use Rattle.pv_value.specs.Weight.{size_with, sizes_with, pair_sizes_with}
use Rattle.sr_caveat.specs.Lemmas.Measures.{measure_template, measure_templates}
use Rattle.sr_caveat.specs.Patterns.{Template}
use Rattle.sr_caveat.specs.Spelled.{paired_with, template_value, template_values}
use Rattle.sr_caveat.specs.View.{keys_of, listed_templates, view_template}
use Rattle.sr_weight.proofs.Fronts.{templates_front, templates_weight}
use Rattle.sr_weight.proofs.weighing.+caveat_weight.Goals as goal

pub template_weights-template_weight-requires : goal.template_weights-template_weight-requires
template_weights-template_weight-requires t c = (
  omega (
    arith,
    template_at c.args.templates.now c.loop-template.template-index c.template-item.result (omega arith)
        c.template-item.is,
  ),
  tt,
)

pub weight_of_caveats-caveat_weight-requires : goal.weight_of_caveats-caveat_weight-requires
weight_of_caveats-caveat_weight-requires t c = (
  omega (
    arith,
    caveat_at c.args.list.now c.loop-caveat.caveat-index c.caveat-item.result (omega arith)
        c.caveat-item.is,
  ),
  tt,
)

pub rewrite_weights-rewrite_weight-requires : goal.rewrite_weights-rewrite_weight-requires
rewrite_weights-rewrite_weight-requires t c = (
  omega (
    arith,
    rewrite_at c.args.rewrites.now c.loop-rewrite.rewrite-index c.rewrite-item.result (omega arith)
        c.rewrite-item.is,
  ),
  tt,
)

pub template_weight-template_weights-templates-requires : goal.template_weight-template_weights-templates-requires
template_weight-template_weights-templates-requires t c =
    let is = sym (ap view_template c.in-Dict.is) ∙ c.template.view_is in
    let falls : measure_templates (listed_templates (take c.min-count.result c.deref-in-Dict.result.now))
    < t =
    omega (
      arith,
      c.decreases,
      ap measure_template is,
      ap (λ (l : List Template). measure_templates (listed_templates l)) c.deref-in-Dict.ensures.value,
      templates_front c.min-count.result c.deref-in-Dict.result.now,
    ) in
    (falls, tt)

pub template_weight-returns-in-Dict : goal.template_weight-returns-in-Dict
template_weight-returns-in-Dict t c =
    let is = sym (ap view_template c.in-Dict.is) ∙ c.template.view_is in
    let n = c.min-count.result in
    let es = c.as_slice-keys.result.now in
    let all = c.in-Dict.templates.items in
    let front = c.deref-in-Dict.result.now in
    let view = ap (λ (p : Template). size_with 48 (template_value p)) is in
    let same = ap (λ (ks : List (Plain × Plain)). pair_sizes_with 48
    (paired_with (keys_of ks) (template_values (listed_templates all))))
    c.as_slice-keys.ensures.same in
    let apart = templates_weight es all n (omega (arith, c.len.ensures, c.min-count.ensures)) in
    let first = ap (λ (l : List Template). sizes_with 48 (template_values (listed_templates (take n l))))
    c.deref-in-Dict.ensures.value in
    let k : c.weight_of_keys-keys.result
    ≡ min (sizes_with 48 (keys_of (map key_and_value (take n es)))) 18446744073709551615 =
    c.weight_of_keys-keys.ensures in
    let v : c.template_weights-templates.result
    ≡ min (sizes_with 48 (template_values (listed_templates (take n front)))) 18446744073709551615 =
    c.template_weights-templates.ensures in
    let l : c.labelled_weight-in-Dict.result
    ≡ min (50 + size_with 48 (symbol (codes "dict")) + c.list_weight-in-Dict.result) 18446744073709551615 =
    c.labelled_weight-in-Dict.ensures in
    omega (arith, view, same, apart, first, k, v, c.saturating_add-in-Dict.ensures, c.list_weight-in-Dict.ensures, l)
