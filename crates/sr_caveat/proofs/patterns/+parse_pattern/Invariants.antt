-- What lasts in the loops of `parse_pattern`, and what falls.
use Rattle.std.proofs.Common.{◌≡◌, ◌+◌, ◌*◌, map, drop}
use Rattle.pv_value.specs.Plain.{plains, pairs}
use Rattle.pv_value.specs.View.{key_and_value}
use Rattle.pv_value.specs.Lemmas.Measures.{measure, measure_all, measure_pairs}
use Rattle.sr_caveat.specs.Written.{patterns_in, patterns_in_pairs}
use Rattle.sr_caveat.specs.Lemmas.Folding.{folded, put_pattern}
use Rattle.sr_caveat.proofs.patterns.+parse_pattern.Given as goal

abbrev pub decreases-parse_pattern : goal.decreases-parse_pattern
decreases-parse_pattern l = 3 * measure l.value.now

abbrev pub decreases-parse_worded : goal.decreases-parse_worded
decreases-parse_worded l = 3 * measure_all (plains l.parts.now) + 1

abbrev pub decreases-parse_short : goal.decreases-parse_short
decreases-parse_short l = 3 * measure l.x.now + 2

abbrev pub decreases-parse_record : goal.decreases-parse_record
decreases-parse_record l = 3 * measure l.x.now + 2

abbrev pub decreases-parse_list : goal.decreases-parse_list
decreases-parse_list l = 3 * measure l.x.now + 1

abbrev pub decreases-parse_each : goal.decreases-parse_each
decreases-parse_each l = 3 * measure_all (plains l.items.now)

abbrev pub decreases-parse_dictionary : goal.decreases-parse_dictionary
decreases-parse_dictionary l = 3 * measure l.x.now + 1

abbrev pub decreases-parse_values : goal.decreases-parse_values
decreases-parse_values l = 3 * measure_pairs (pairs (map key_and_value l.entries.now))

-- those that were read, before the rest
abbrev pub invariant-parse_each-loop-x : goal.invariant-parse_each-loop-x
invariant-parse_each-loop-x l =
    folded put_pattern l.patterns.items (patterns_in (plains (drop l.x-index l.items)))
    ≡ patterns_in (plains l.items)

abbrev pub invariant-parse_values-loop-e : goal.invariant-parse_values-loop-e
invariant-parse_values-loop-e l =
    folded put_pattern l.patterns.items (patterns_in_pairs (pairs (map key_and_value (drop l.e-index l.entries))))
    ≡ patterns_in_pairs (pairs (map key_and_value l.entries))
