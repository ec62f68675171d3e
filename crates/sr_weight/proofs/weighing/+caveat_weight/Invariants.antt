-- What lasts in the loops of `caveat_weight`, and what falls.
use Rattle.std.proofs.Common.{◌≡◌, ◌+◌, ◌≤◌, drop, min}
use Rattle.pv_value.specs.Weight.{sizes_with}
use Rattle.sr_caveat.specs.Lemmas.Measures.{measure_template, measure_templates, measure_caveat, measure_caveats}
use Rattle.sr_caveat.specs.Lemmas.Measures.{measure_rewrites}
use Rattle.sr_caveat.specs.Patterns.{caveats}
use Rattle.sr_caveat.specs.Spelled.{template_values, caveat_values, rewrite_values}
use Rattle.sr_caveat.specs.View.{listed_templates, listed_rewrites}
use Rattle.sr_weight.proofs.weighing.+caveat_weight.Given as goal

abbrev pub decreases-template_weight : goal.decreases-template_weight
decreases-template_weight l = measure_template l.template.now

abbrev pub decreases-template_weights : goal.decreases-template_weights
decreases-template_weights l = measure_templates (listed_templates l.templates.now)

abbrev pub decreases-caveat_weight : goal.decreases-caveat_weight
decreases-caveat_weight l = measure_caveat l.caveat.now

abbrev pub decreases-weight_of_caveats : goal.decreases-weight_of_caveats
decreases-weight_of_caveats l = measure_caveats (caveats l.list.now)

abbrev pub decreases-rewrite_weight : goal.decreases-rewrite_weight
decreases-rewrite_weight l = measure_template l.rule.now.template + 1

abbrev pub decreases-rewrite_weights : goal.decreases-rewrite_weights
decreases-rewrite_weights l = measure_rewrites (listed_rewrites l.rewrites.now)

abbrev pub invariant-template_weights-loop-template : goal.invariant-template_weights-loop-template
invariant-template_weights-loop-template l =
    record {
      light : l.total ≤ 18446744073709551615;
      weight : min (l.total + sizes_with 48 (template_values (listed_templates (drop l.template-index l.templates))))
          18446744073709551615
          ≡ min (sizes_with 48 (template_values (listed_templates l.templates))) 18446744073709551615;
    }

abbrev pub invariant-weight_of_caveats-loop-caveat : goal.invariant-weight_of_caveats-loop-caveat
invariant-weight_of_caveats-loop-caveat l =
    record {
      light : l.total ≤ 18446744073709551615;
      weight : min (l.total + sizes_with 48 (caveat_values (caveats (drop l.caveat-index l.list))))
          18446744073709551615
          ≡ min (sizes_with 48 (caveat_values (caveats l.list))) 18446744073709551615;
    }

abbrev pub invariant-rewrite_weights-loop-rewrite : goal.invariant-rewrite_weights-loop-rewrite
invariant-rewrite_weights-loop-rewrite l =
    record {
      light : l.total ≤ 18446744073709551615;
      weight : min (l.total + sizes_with 48 (rewrite_values (listed_rewrites (drop l.rewrite-index l.rewrites))))
          18446744073709551615
          ≡ min (sizes_with 48 (rewrite_values (listed_rewrites l.rewrites))) 18446744073709551615;
    }
