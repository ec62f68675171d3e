-- The goals of `caveat_depth` that the check leaves.
use Rattle.std.proofs.Common.{◌≡◌, ◌+◌, ◌<◌, min, List, map, take, sym, ap, ◌∙◌, max, arith}
use Rattle.sr_caveat.specs.Lemmas.Falls.{template_at, caveat_at, rewrite_at}
use Rattle.pv_value.specs.Plain.{Plain}
use Rattle.pv_value.specs.View.{key_and_value}
use Rattle.pv_value.specs.Depth.{depth, deepest, deepest_pair}
use Rattle.sr_caveat.specs.Lemmas.Measures.{measure_template, measure_templates}
use Rattle.sr_caveat.specs.Patterns.{Template}
use Rattle.sr_caveat.specs.Spelled.{paired_with, template_value, template_values}
use Rattle.sr_caveat.specs.View.{keys_of, listed_templates, view_template}
use Rattle.sr_weight.proofs.Fronts.{templates_front, templates_depth}
use Rattle.sr_weight.proofs.nesting.+caveat_depth.Goals as goal

pub template_depths-template_depth-requires : goal.template_depths-template_depth-requires
template_depths-template_depth-requires t c = (
  omega (
    arith,
    template_at c.args.templates.now c.loop-template.template-index c.template-item.result (omega arith)
        c.template-item.is,
  ),
  tt,
)

pub depth_of_caveats-caveat_depth-requires : goal.depth_of_caveats-caveat_depth-requires
depth_of_caveats-caveat_depth-requires t c = (
  omega (
    arith,
    caveat_at c.args.list.now c.loop-caveat.caveat-index c.caveat-item.result (omega arith)
        c.caveat-item.is,
  ),
  tt,
)

pub rewrite_depths-rewrite_depth-requires : goal.rewrite_depths-rewrite_depth-requires
rewrite_depths-rewrite_depth-requires t c = (
  omega (
    arith,
    rewrite_at c.args.rewrites.now c.loop-rewrite.rewrite-index c.rewrite-item.result (omega arith)
        c.rewrite-item.is,
  ),
  tt,
)

pub template_depth-template_depths-templates-requires : goal.template_depth-template_depths-templates-requires
template_depth-template_depths-templates-requires t c =
    let is = sym (ap view_template c.in-Dict.is) ∙ c.template.view_is in
    let falls : measure_templates (listed_templates (take c.min-count.result c.deref-in-Dict.result.now))
    < t =
    omega (
      arith,
      c.decreases,
      ap measure_template is,
      ap (λ (l : List Template). measure_templates (listed_templates l)) c.deref-in-Dict.ensures.value,
      templates_front c.min-count.result c.deref-in-Dict.result.now,
    ) in
    (falls, tt)

pub template_depth-returns-in-Dict : goal.template_depth-returns-in-Dict
template_depth-returns-in-Dict t c =
    let is = sym (ap view_template c.in-Dict.is) ∙ c.template.view_is in
    let n = c.min-count.result in
    let es = c.as_slice-keys.result.now in
    let all = c.in-Dict.templates.items in
    let front = c.deref-in-Dict.result.now in
    let view = ap (λ (p : Template). depth (template_value p)) is in
    let same = ap (λ (ks : List (Plain × Plain)). deepest_pair
    (paired_with (keys_of ks) (template_values (listed_templates all))))
    c.as_slice-keys.ensures.same in
    let apart = templates_depth es all n (omega (arith, c.len.ensures, c.min-count.ensures)) in
    let first = ap (λ (l : List Template). deepest (template_values (listed_templates (take n l))))
    c.deref-in-Dict.ensures.value in
    let k : c.depth_of_keys-keys.result ≡ min (deepest (keys_of (map key_and_value (take n es)))) 4294967295 =
    c.depth_of_keys-keys.ensures in
    let v : c.template_depths-templates.result
    ≡ min (deepest (template_values (listed_templates (take n front)))) 4294967295 =
    c.template_depths-templates.ensures in
    omega (arith, view, same, apart, first, k, v, c.max-in-Dict.ensures, c.saturating_add-in-Dict.ensures)
