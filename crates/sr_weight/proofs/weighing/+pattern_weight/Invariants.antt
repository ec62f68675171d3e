-- What lasts in the loops of `pattern_weight`, and what falls.
use Rattle.std.proofs.Common.{◌≡◌, ◌+◌, ◌≤◌, drop, min}
use Rattle.pv_value.specs.Weight.{sizes_with}
use Rattle.sr_caveat.specs.Lemmas.Measures.{measure, measure_all}
use Rattle.sr_caveat.specs.Spelled.{pattern_values}
use Rattle.sr_caveat.specs.View.{listed_patterns}
use Rattle.sr_weight.proofs.weighing.+pattern_weight.Given as goal

abbrev pub decreases-pattern_weight : goal.decreases-pattern_weight
decreases-pattern_weight l = measure l.pattern.now

abbrev pub decreases-pattern_weights : goal.decreases-pattern_weights
decreases-pattern_weights l = measure_all (listed_patterns l.patterns.now)

abbrev pub invariant-pattern_weights-loop-pattern : goal.invariant-pattern_weights-loop-pattern
invariant-pattern_weights-loop-pattern l =
    record {
      light : l.total ≤ 18446744073709551615;
      weight : min (l.total + sizes_with 48 (pattern_values (listed_patterns (drop l.pattern-index l.patterns))))
          18446744073709551615
          ≡ min (sizes_with 48 (pattern_values (listed_patterns l.patterns))) 18446744073709551615;
    }
