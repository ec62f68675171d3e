-- What lasts in the loops of `pattern_value`, and what falls.
use Rattle.std.proofs.Common.{◌≡◌, drop}
use Rattle.pv_value.specs.Plain.{then_more}
use Rattle.sr_caveat.specs.Lemmas.Measures.{measure, measure_all}
use Rattle.sr_caveat.specs.Spelled.{pattern_values}
use Rattle.sr_caveat.specs.View.{listed_patterns}
use Rattle.sr_caveat.specs.Lemmas.Folding.{folded}
use Rattle.sr_caveat.proofs.spelling.+pattern_value.Given as goal

abbrev pub decreases-pattern_value : goal.decreases-pattern_value
decreases-pattern_value l = measure l.pattern.now

abbrev pub decreases-pattern_values : goal.decreases-pattern_values
decreases-pattern_values l = measure_all (listed_patterns l.patterns.now)

abbrev pub invariant-pattern_values-loop-pattern : goal.invariant-pattern_values-loop-pattern
invariant-pattern_values-loop-pattern l =
    folded then_more l.values.items (pattern_values (listed_patterns (drop l.pattern-index l.patterns)))
    ≡ pattern_values (listed_patterns l.patterns)
