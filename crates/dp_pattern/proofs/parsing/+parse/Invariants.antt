use Rattle.std.proofs.Common.{◌≡◌, ◌+◌, ◌*◌, length, map, drop}
use Rattle.pv_value.specs.Plain.{plains, pairs}
use Rattle.pv_value.specs.View.{key_and_value}
use Rattle.pv_value.specs.Lemmas.Measures.{measure, measure_all, measure_pairs}
use Rattle.dp_pattern.specs.Written.{fields_in, items_from}
use Rattle.dp_pattern.proofs.Shapes.{before}
use Rattle.dp_pattern.proofs.parsing.+parse.Given as goal

abbrev pub decreases-parse : goal.decreases-parse
decreases-parse l = 4 * measure l.value.now

abbrev pub decreases-parse_one : goal.decreases-parse_one
decreases-parse_one l = 4 * measure l.x.now + 3

abbrev pub decreases-parse_older : goal.decreases-parse_older
decreases-parse_older l = 4 * measure l.x.now + 2

abbrev pub decreases-parse_two : goal.decreases-parse_two
decreases-parse_two l = 4 * measure l.fields.now + 3

abbrev pub decreases-parse_group : goal.decreases-parse_group
decreases-parse_group l = 4 * measure l.fields.now + 1

abbrev pub decreases-parse_fields : goal.decreases-parse_fields
decreases-parse_fields l = 4 * measure l.value.now + 1

abbrev pub decreases-parse_entries : goal.decreases-parse_entries
decreases-parse_entries l = 4 * measure_pairs (pairs (map key_and_value l.entries.now)) + 1

abbrev pub decreases-parse_items : goal.decreases-parse_items
decreases-parse_items l = 4 * measure l.value.now + 1

abbrev pub decreases-parse_places : goal.decreases-parse_places
decreases-parse_places l = 4 * measure_all (plains l.values.now) + 1

-- those that were read, before the rest
abbrev pub invariant-parse_entries-loop-e : goal.invariant-parse_entries-loop-e
invariant-parse_entries-loop-e l =
    before l.fields.items (fields_in (pairs (map key_and_value (drop l.e-index l.entries))))
    ≡ fields_in (pairs (map key_and_value l.entries))

abbrev pub invariant-parse_places-loop-x : goal.invariant-parse_places-loop-x
invariant-parse_places-loop-x l =
    before l.fields.items (items_from (length l.fields.items) (plains (drop l.x-index l.values)))
    ≡ items_from 0 (plains l.values)
