-- What lasts in the loops of `filled_weight`, and what falls.
use Rattle.std.proofs.Common.{◌≡◌, ◌+◌, ◌≤◌, drop, min}
use Rattle.sr_caveat.specs.Lemmas.Measures.{measure_template, measure_templates}
use Rattle.sr_caveat.specs.View.{listed_templates}
use Rattle.sr_pass.specs.Sizes.{filled_weights}
use Rattle.sr_pass.proofs.sizes.+filled_weight.Given as goal

abbrev pub decreases-filled_weight : goal.decreases-filled_weight
decreases-filled_weight l = measure_template l.template.now

abbrev pub decreases-with_filled_weights : goal.decreases-with_filled_weights
decreases-with_filled_weights l = measure_templates (listed_templates l.templates.now)

abbrev pub invariant-with_filled_weights-loop-template : goal.invariant-with_filled_weights-loop-template
invariant-with_filled_weights-loop-template l =
    record {
      light : l.total ≤ 18446744073709551615;
      weight : min (l.total + filled_weights (listed_templates (drop l.template-index l.templates)) l.bindings) l.most
          ≡ min (l.own + filled_weights (listed_templates l.templates) l.bindings) l.most;
    }
