-- What lasts in the loops of `binds`, and what falls.
use Rattle.std.proofs.Common.{◌≡◌, ◌+◌, ◌≤◌, drop, min}
use Rattle.sr_caveat.specs.Lemmas.Measures.{measure, measure_all}
use Rattle.sr_caveat.specs.Written.{all_binds}
use Rattle.sr_caveat.specs.View.{listed_patterns}
use Rattle.sr_caveat.proofs.binds.+binds.Given as goal

abbrev pub decreases-binds : goal.decreases-binds
decreases-binds l = measure l.pattern.now

abbrev pub decreases-all_binds : goal.decreases-all_binds
decreases-all_binds l = measure_all (listed_patterns l.patterns.now)

abbrev pub invariant-all_binds-loop-pattern : goal.invariant-all_binds-loop-pattern
invariant-all_binds-loop-pattern l =
    record {
      small : l.total ≤ 18446744073709551615;
      total : min (l.total + all_binds (listed_patterns (drop l.pattern-index l.patterns))) 18446744073709551615
          ≡ min (all_binds (listed_patterns l.patterns)) 18446744073709551615;
    }
