-- What lasts in the loops of `caveat_depth`, and what falls.
use Rattle.std.proofs.Common.{◌≡◌, ◌+◌, ◌≤◌, drop, min, max}
use Rattle.pv_value.specs.Depth.{deepest}
use Rattle.sr_caveat.specs.Lemmas.Measures.{measure_template, measure_templates, measure_caveat, measure_caveats}
use Rattle.sr_caveat.specs.Lemmas.Measures.{measure_rewrites}
use Rattle.sr_caveat.specs.Patterns.{caveats}
use Rattle.sr_caveat.specs.Spelled.{template_values, caveat_values, rewrite_values}
use Rattle.sr_caveat.specs.View.{listed_templates, listed_rewrites}
use Rattle.sr_weight.proofs.nesting.+caveat_depth.Given as goal

abbrev pub decreases-template_depth : goal.decreases-template_depth
decreases-template_depth l = measure_template l.template.now

abbrev pub decreases-template_depths : goal.decreases-template_depths
decreases-template_depths l = measure_templates (listed_templates l.templates.now)

abbrev pub decreases-caveat_depth : goal.decreases-caveat_depth
decreases-caveat_depth l = measure_caveat l.caveat.now

abbrev pub decreases-depth_of_caveats : goal.decreases-depth_of_caveats
decreases-depth_of_caveats l = measure_caveats (caveats l.list.now)

abbrev pub decreases-rewrite_depth : goal.decreases-rewrite_depth
decreases-rewrite_depth l = measure_template l.rule.now.template + 1

abbrev pub decreases-rewrite_depths : goal.decreases-rewrite_depths
decreases-rewrite_depths l = measure_rewrites (listed_rewrites l.rewrites.now)

abbrev pub invariant-template_depths-loop-template : goal.invariant-template_depths-loop-template
invariant-template_depths-loop-template l =
    record {
      shallow : l.deepest ≤ 4294967295;
      depth : min (max l.deepest (deepest (template_values (listed_templates (drop l.template-index l.templates)))))
          4294967295
          ≡ min (deepest (template_values (listed_templates l.templates))) 4294967295;
    }

abbrev pub invariant-depth_of_caveats-loop-caveat : goal.invariant-depth_of_caveats-loop-caveat
invariant-depth_of_caveats-loop-caveat l =
    record {
      shallow : l.deepest ≤ 4294967295;
      depth : min (max l.deepest (deepest (caveat_values (caveats (drop l.caveat-index l.list)))))
          4294967295
          ≡ min (deepest (caveat_values (caveats l.list))) 4294967295;
    }

abbrev pub invariant-rewrite_depths-loop-rewrite : goal.invariant-rewrite_depths-loop-rewrite
invariant-rewrite_depths-loop-rewrite l =
    record {
      shallow : l.deepest ≤ 4294967295;
      depth : min (max l.deepest (deepest (rewrite_values (listed_rewrites (drop l.rewrite-index l.rewrites)))))
          4294967295
          ≡ min (deepest (rewrite_values (listed_rewrites l.rewrites))) 4294967295;
    }
