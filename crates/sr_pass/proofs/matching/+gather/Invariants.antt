-- What was gathered, and what is still to come.
use Rattle.std.proofs.Common.{◌≡◌, ◌+◌, ◌*◌, ◌++◌, drop, map}
use Rattle.pv_value.specs.Plain.{plains, pairs}
use Rattle.pv_value.specs.View.{key_and_value}
use Rattle.sr_caveat.specs.Lemmas.Measures.{measure, measure_all}
use Rattle.sr_caveat.specs.View.{listed_patterns, keys_of}
use Rattle.sr_pass.specs.Gathered.{all_gathered, each_gathered, gathered_under}
use Rattle.sr_pass.proofs.matching.+gather.Given as goal

abbrev pub decreases-gather : goal.decreases-gather
decreases-gather l = 2 * measure l.pattern.now

abbrev pub decreases-gather_all : goal.decreases-gather_all
decreases-gather_all l = 2 * measure_all (listed_patterns l.patterns.now)

abbrev pub decreases-gather_fields : goal.decreases-gather_fields
decreases-gather_fields l = 2 * measure_all (listed_patterns l.patterns.now) + 1

abbrev pub decreases-gather_items : goal.decreases-gather_items
decreases-gather_items l = 2 * measure_all (listed_patterns l.patterns.now) + 1

abbrev pub decreases-gather_values : goal.decreases-gather_values
decreases-gather_values l = 2 * measure_all (listed_patterns l.patterns.now) + 1

abbrev pub decreases-gather_each : goal.decreases-gather_each
decreases-gather_each l = 2 * measure_all (listed_patterns l.patterns.now)

abbrev pub decreases-gather_under : goal.decreases-gather_under
decreases-gather_under l = 2 * measure_all (listed_patterns l.patterns.now)

abbrev pub decreases-gather_part : goal.decreases-gather_part
decreases-gather_part l = 2 * measure l.pattern.now + 1

abbrev pub invariant-gather_all-loop-pattern : goal.invariant-gather_all-loop-pattern
invariant-gather_all-loop-pattern l =
    l.found.items ++ all_gathered (listed_patterns (drop l.pattern-index l.patterns)) l.value
    ≡ l.initial.found.items ++ all_gathered (listed_patterns l.patterns) l.value

abbrev pub invariant-gather_each-loop-i : goal.invariant-gather_each-loop-i
invariant-gather_each-loop-i l =
    l.found.items ++ each_gathered (listed_patterns (drop l.i l.patterns)) (plains (drop l.i l.values))
    ≡ l.initial.found.items ++ each_gathered (listed_patterns l.patterns) (plains l.values)

abbrev pub invariant-gather_under-loop-i : goal.invariant-gather_under-loop-i
invariant-gather_under-loop-i l =
    l.found.items ++ gathered_under (listed_patterns (drop l.i l.patterns))
    (keys_of (map key_and_value (drop l.i l.keys)))
    (pairs l.entries)
    ≡ l.initial.found.items ++ gathered_under (listed_patterns l.patterns) (keys_of (map key_and_value l.keys))
    (pairs l.entries)
