-- What lasts in the loops of `pattern_depth`, and what falls.
use Rattle.std.proofs.Common.{◌≡◌, ◌≤◌, drop, min, max}
use Rattle.pv_value.specs.Depth.{deepest}
use Rattle.sr_caveat.specs.Lemmas.Measures.{measure, measure_all}
use Rattle.sr_caveat.specs.Spelled.{pattern_values}
use Rattle.sr_caveat.specs.View.{listed_patterns}
use Rattle.sr_weight.proofs.nesting.+pattern_depth.Given as goal

abbrev pub decreases-pattern_depth : goal.decreases-pattern_depth
decreases-pattern_depth l = measure l.pattern.now

abbrev pub decreases-pattern_depths : goal.decreases-pattern_depths
decreases-pattern_depths l = measure_all (listed_patterns l.patterns.now)

abbrev pub invariant-pattern_depths-loop-pattern : goal.invariant-pattern_depths-loop-pattern
invariant-pattern_depths-loop-pattern l =
    record {
      shallow : l.deepest ≤ 4294967295;
      depth : min (max l.deepest (deepest (pattern_values (listed_patterns (drop l.pattern-index l.patterns)))))
          4294967295
          ≡ min (deepest (pattern_values (listed_patterns l.patterns))) 4294967295;
    }
