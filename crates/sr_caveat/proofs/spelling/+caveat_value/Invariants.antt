-- What lasts in the loops of `caveat_value`, and what falls.
use Rattle.std.proofs.Common.{◌≡◌, ◌+◌, drop}
use Rattle.pv_value.specs.Plain.{then_more}
use Rattle.sr_caveat.specs.Lemmas.Measures.{measure_template, measure_templates, measure_caveat, measure_caveats}
use Rattle.sr_caveat.specs.Lemmas.Measures.{measure_rewrites}
use Rattle.sr_caveat.specs.Patterns.{caveats}
use Rattle.sr_caveat.specs.Spelled.{template_values, caveat_values, rewrite_values}
use Rattle.sr_caveat.specs.View.{listed_templates, listed_rewrites}
use Rattle.sr_caveat.specs.Lemmas.Folding.{folded}
use Rattle.sr_caveat.proofs.spelling.+caveat_value.Given as goal

abbrev pub decreases-template_value : goal.decreases-template_value
decreases-template_value l = measure_template l.template.now

abbrev pub decreases-template_values : goal.decreases-template_values
decreases-template_values l = measure_templates (listed_templates l.templates.now)

abbrev pub decreases-caveat_value : goal.decreases-caveat_value
decreases-caveat_value l = measure_caveat l.caveat.now

abbrev pub decreases-caveat_values : goal.decreases-caveat_values
decreases-caveat_values l = measure_caveats (caveats l.list.now)

abbrev pub decreases-rewrite_value : goal.decreases-rewrite_value
decreases-rewrite_value l = measure_template l.rule.now.template + 1

abbrev pub decreases-rewrite_values : goal.decreases-rewrite_values
decreases-rewrite_values l = measure_rewrites (listed_rewrites l.rewrites.now)

abbrev pub invariant-template_values-loop-template : goal.invariant-template_values-loop-template
invariant-template_values-loop-template l =
    folded then_more l.values.items (template_values (listed_templates (drop l.template-index l.templates)))
    ≡ template_values (listed_templates l.templates)

abbrev pub invariant-caveat_values-loop-caveat : goal.invariant-caveat_values-loop-caveat
invariant-caveat_values-loop-caveat l =
    folded then_more l.values.items (caveat_values (caveats (drop l.caveat-index l.list)))
    ≡ caveat_values (caveats l.list)

abbrev pub invariant-rewrite_values-loop-rewrite : goal.invariant-rewrite_values-loop-rewrite
invariant-rewrite_values-loop-rewrite l =
    folded then_more l.values.items (rewrite_values (listed_rewrites (drop l.rewrite-index l.rewrites)))
    ≡ rewrite_values (listed_rewrites l.rewrites)
