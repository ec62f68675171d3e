-- What lasts in the loops of `filled_depth`, and what falls.
use Rattle.std.proofs.Common.{◌≡◌, ◌≤◌, drop, min, max}
use Rattle.sr_caveat.specs.Lemmas.Measures.{measure_template, measure_templates}
use Rattle.sr_caveat.specs.View.{listed_templates}
use Rattle.sr_pass.specs.Sizes.{filled_depths}
use Rattle.sr_pass.proofs.sizes.+filled_depth.Given as goal

abbrev pub decreases-filled_depth : goal.decreases-filled_depth
decreases-filled_depth l = measure_template l.template.now

abbrev pub decreases-filled_depths : goal.decreases-filled_depths
decreases-filled_depths l = measure_templates (listed_templates l.templates.now)

abbrev pub invariant-filled_depths-loop-template : goal.invariant-filled_depths-loop-template
invariant-filled_depths-loop-template l =
    record {
      shallow : l.deepest ≤ 4294967295;
      depth : min (max l.deepest (filled_depths (listed_templates (drop l.template-index l.templates)) l.bindings))
          4294967295
          ≡ min (filled_depths (listed_templates l.templates) l.bindings) 4294967295;
    }
