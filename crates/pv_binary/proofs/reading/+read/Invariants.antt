use Rattle.std.proofs.Common.{◌≡◌, ◌+◌, ◌-◌, ◌*◌, length, map}
use Rattle.pv_value.specs.View.{key_and_value}
use Rattle.pv_read.specs.Lemmas.Fronts.{behind_front}
use Rattle.pv_binary.specs.Reading.{entry_at, up_to_end, items_at, pairs_at, value_at}
use Rattle.pv_binary.proofs.reading.+read.Given as goal

abbrev pub decreases-read_value : goal.decreases-read_value
decreases-read_value l = 4 * l.budget

abbrev pub decreases-read_items : goal.decreases-read_items
decreases-read_items l = 4 * l.budget + 1

abbrev pub decreases-read_pairs : goal.decreases-read_pairs
decreases-read_pairs l = 4 * l.budget + 1

abbrev pub decreases-read_embedded : goal.decreases-read_embedded
decreases-read_embedded l = 4 * l.budget + 2

abbrev pub decreases-read_record : goal.decreases-read_record
decreases-read_record l = 4 * l.budget + 2

abbrev pub decreases-read_sequence : goal.decreases-read_sequence
decreases-read_sequence l = 4 * l.budget + 2

abbrev pub decreases-read_set : goal.decreases-read_set
decreases-read_set l = 4 * l.budget + 2

abbrev pub decreases-read_dictionary : goal.decreases-read_dictionary
decreases-read_dictionary l = 4 * l.budget + 2

abbrev pub decreases-read_compound : goal.decreases-read_compound
decreases-read_compound l = 4 * l.budget + 3

abbrev pub invariant-read_items-loop : goal.invariant-read_items-loop
invariant-read_items-loop l =
    behind_front l.items.items (up_to_end l.total (value_at l.total l.budget) (length l.initial.rest - l.counter) l.rest)
    ≡ items_at l.total (value_at l.total l.budget) l.initial.rest

abbrev pub invariant-read_pairs-loop : goal.invariant-read_pairs-loop
invariant-read_pairs-loop l =
    behind_front (map key_and_value l.entries.items)
    (up_to_end l.total (entry_at (value_at l.total l.budget)) (length l.initial.rest - l.counter) l.rest)
    ≡ pairs_at l.total (value_at l.total l.budget) l.initial.rest
