-- What lasts in the loops of `all_known`, and what falls.
use Rattle.std.proofs.Common.{◌≡◌, drop}
use Rattle.sr_caveat.specs.Lemmas.Measures.{measure_template, measure_templates, measure_caveat, measure_caveats}
use Rattle.sr_caveat.specs.Lemmas.Measures.{measure_rewrites}
use Rattle.sr_caveat.specs.Patterns.{caveats}
use Rattle.sr_caveat.specs.View.{listed_templates, listed_rewrites}
use Rattle.lc_guard.specs.Knowing.{all_known, rewrites_known, templates_known}
use Rattle.lc_guard.proofs.knowing.+all_known.Given as goal

abbrev pub decreases-all_known : goal.decreases-all_known
decreases-all_known g l = measure_caveats (caveats l.list.now)

abbrev pub decreases-known : goal.decreases-known
decreases-known g l = measure_caveat l.caveat.now

abbrev pub decreases-rewrites_known : goal.decreases-rewrites_known
decreases-rewrites_known g l = measure_rewrites (listed_rewrites l.rewrites.now)

abbrev pub decreases-template_known : goal.decreases-template_known
decreases-template_known g l = measure_template l.template.now

abbrev pub decreases-templates_known : goal.decreases-templates_known
decreases-templates_known g l = measure_templates (listed_templates l.templates.now)

abbrev pub invariant-all_known-loop-caveat : goal.invariant-all_known-loop-caveat
invariant-all_known-loop-caveat g l =
    all_known (g.J.Judge.schema l.judge) (caveats (drop l.caveat-index l.list))
    ≡ all_known (g.J.Judge.schema l.judge) (caveats l.list)

abbrev pub invariant-rewrites_known-loop-rewrite : goal.invariant-rewrites_known-loop-rewrite
invariant-rewrites_known-loop-rewrite g l =
    rewrites_known (g.J.Judge.schema l.judge) (listed_rewrites (drop l.rewrite-index l.rewrites))
    ≡ rewrites_known (g.J.Judge.schema l.judge) (listed_rewrites l.rewrites)

abbrev pub invariant-templates_known-loop-template : goal.invariant-templates_known-loop-template
invariant-templates_known-loop-template g l =
    templates_known (g.J.Judge.schema l.judge) (listed_templates (drop l.template-index l.templates))
    ≡ templates_known (g.J.Judge.schema l.judge) (listed_templates l.templates)
