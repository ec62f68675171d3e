use Rattle.std.proofs.Common.{◌≡◌, ◌+◌, ◌*◌, map, drop}
use Rattle.pv_value.specs.Plain.{plains, pairs}
use Rattle.pv_value.specs.View.{key_and_value}
use Rattle.pv_value.specs.Lemmas.Measures.{measure, measure_all, measure_pairs}
use Rattle.ps_read.specs.Written.{patterns_of, fields_of}
use Rattle.ps_read.proofs.Parses.{before, fields_before}
use Rattle.ps_read.proofs.parsing.+parse.Given as goal

abbrev pub decreases-parse : goal.decreases-parse
decreases-parse l = 4 * measure l.value.now

abbrev pub decreases-parse_record : goal.decreases-parse_record
decreases-parse_record l = 4 * measure_all (plains l.fields.now) + 2

abbrev pub decreases-parse_pair : goal.decreases-parse_pair
decreases-parse_pair l = 4 * (measure l.first.now + measure l.second.now) + 1

abbrev pub decreases-parse_items : goal.decreases-parse_items
decreases-parse_items l = 4 * measure_all (plains l.items.now) + 3

abbrev pub decreases-parse_open : goal.decreases-parse_open
decreases-parse_open l = 4 * measure_all (plains l.items.now) + 2

abbrev pub decreases-parse_all : goal.decreases-parse_all
decreases-parse_all l = 4 * measure_all (plains l.values.now)

abbrev pub decreases-parse_set : goal.decreases-parse_set
decreases-parse_set l = 4 * measure_all (plains l.elements.now) + 1

abbrev pub decreases-parse_dictionary : goal.decreases-parse_dictionary
decreases-parse_dictionary l = 4 * measure_pairs (pairs (map key_and_value l.entries.now)) + 3

abbrev pub decreases-parse_fields : goal.decreases-parse_fields
decreases-parse_fields l = 4 * measure_pairs (pairs (map key_and_value l.entries.now))

-- those that were read, before the rest
abbrev pub invariant-parse_all-loop-value : goal.invariant-parse_all-loop-value
invariant-parse_all-loop-value l =
    before l.all.items (patterns_of (plains (drop l.value-index l.values))) ≡ patterns_of (plains l.values)

abbrev pub invariant-parse_fields-loop-e : goal.invariant-parse_fields-loop-e
invariant-parse_fields-loop-e l =
    fields_before l.fields.items (fields_of (pairs (map key_and_value (drop l.e-index l.entries))))
    ≡ fields_of (pairs (map key_and_value l.entries))
