use Rattle.std.proofs.Common.{◌≡◌, ◌+◌, ◌*◌, ◌++◌, drop, map}
use Rattle.std.specs.Io.{StartsWith}
use Rattle.pv_value.specs.Plain.{plains, pairs}
use Rattle.pv_value.specs.Lemmas.Measures.{measure, measure_all, measure_pairs}
use Rattle.pv_value.specs.View.{key_and_value}
use Rattle.pv_binary.specs.Written.{written_all, written_pairs}
use Rattle.pv_binary.proofs.writing.+write.Given as goal

abbrev pub decreases-write_into : goal.decreases-write_into
decreases-write_into l = 2 * measure l.v.now

abbrev pub decreases-push_record : goal.decreases-push_record
decreases-push_record l = 2 * measure l.label.now + 2 * measure_all (plains l.fields.now) + 1

abbrev pub decreases-push_list : goal.decreases-push_list
decreases-push_list l = 2 * measure_all (plains l.items.now) + 1

abbrev pub decreases-push_dictionary : goal.decreases-push_dictionary
decreases-push_dictionary l = 2 * measure_pairs (pairs (map key_and_value l.entries.now)) + 1

abbrev pub decreases-push_embedded : goal.decreases-push_embedded
decreases-push_embedded l = 2 * measure l.inside.now + 1

abbrev pub decreases-push_all : goal.decreases-push_all
decreases-push_all l = 2 * measure_all (plains l.items.now)

abbrev pub decreases-push_entries : goal.decreases-push_entries
decreases-push_entries l = 2 * measure_pairs (pairs (map key_and_value l.entries.now))

abbrev pub invariant-push_all-loop-x : goal.invariant-push_all-loop-x
invariant-push_all-loop-x l =
    (l.out.items ++ written_all (plains (drop l.x-index l.items)) ≡ l.initial.out.items ++ written_all (plains l.items))
    × StartsWith l.out.items l.initial.out.items

abbrev pub invariant-push_entries-loop-e : goal.invariant-push_entries-loop-e
invariant-push_entries-loop-e l =
    (l.out.items ++ written_pairs (pairs (map key_and_value (drop l.e-index l.entries)))
    ≡ l.initial.out.items ++ written_pairs (pairs (map key_and_value l.entries)))
    × StartsWith l.out.items l.initial.out.items
