-- What lasts in the loops of `fill`, and what falls.
use Rattle.std.proofs.Common.{◌≡◌, drop}
use Rattle.sr_caveat.specs.Lemmas.Measures.{measure_template, measure_templates}
use Rattle.sr_caveat.specs.View.{listed_templates}
use Rattle.sr_caveat.specs.Lemmas.Folding.{folded}
use Rattle.sr_pass.specs.Filling.{all_filled}
use Rattle.sr_pass.proofs.Filled.{put_first}
use Rattle.sr_pass.proofs.filling.+fill.Given as goal

abbrev pub decreases-fill : goal.decreases-fill
decreases-fill l = measure_template l.template.now

abbrev pub decreases-fill_all : goal.decreases-fill_all
decreases-fill_all l = measure_templates (listed_templates l.templates.now)

abbrev pub invariant-fill_all-loop-template : goal.invariant-fill_all-loop-template
invariant-fill_all-loop-template l =
    folded put_first l.values.items (all_filled (listed_templates (drop l.template-index l.templates)) l.bindings)
    ≡ all_filled (listed_templates l.templates) l.bindings
