use Rattle.std.proofs.Common.{◌≡◌, ◌+◌, ◌*◌, ◌++◌, drop, map}
use Rattle.std.specs.Io.{StartsWith}
use Rattle.std.specs.List.{concat}
use Rattle.pv_value.specs.Plain.{plains, pairs}
use Rattle.pv_value.specs.Lemmas.Measures.{measure, measure_all, measure_pairs}
use Rattle.pv_value.specs.View.{key_and_value}
use Rattle.pv_canon.specs.Canonical.{forms, entry_forms, joined}
use Rattle.pv_canon.proofs.Rising.{keys, RiseSoFar}
use Rattle.pv_canon.proofs.forms.+canon.Given as goal

abbrev pub decreases-canon_into : goal.decreases-canon_into
decreases-canon_into l = 2 * measure l.v.now

abbrev pub decreases-push_record : goal.decreases-push_record
decreases-push_record l = 2 * measure l.label.now + 2 * measure_all (plains l.fields.now) + 1

abbrev pub decreases-push_sequence : goal.decreases-push_sequence
decreases-push_sequence l = 2 * measure_all (plains l.items.now) + 1

abbrev pub decreases-push_embedded : goal.decreases-push_embedded
decreases-push_embedded l = 2 * measure l.inside.now + 1

abbrev pub decreases-push_list : goal.decreases-push_list
decreases-push_list l = 2 * measure_all (plains l.items.now)

abbrev pub decreases-push_set : goal.decreases-push_set
decreases-push_set l = 2 * measure_all (plains l.items.now) + 1

abbrev pub decreases-push_forms : goal.decreases-push_forms
decreases-push_forms l = 2 * measure_all (plains l.items.now)

abbrev pub decreases-push_dictionary : goal.decreases-push_dictionary
decreases-push_dictionary l = 2 * measure_pairs (pairs (map key_and_value l.entries.now)) + 1

abbrev pub decreases-push_entry_forms : goal.decreases-push_entry_forms
decreases-push_entry_forms l = 2 * measure_pairs (pairs (map key_and_value l.entries.now))

abbrev pub invariant-push_list-loop-x : goal.invariant-push_list-loop-x
invariant-push_list-loop-x l =
    (l.out.items ++ concat (forms (plains (drop l.x-index l.items))) ≡ l.initial.out.items
    ++ concat (forms (plains l.items)))
    × StartsWith l.out.items l.initial.out.items

abbrev pub invariant-push_forms-loop-x : goal.invariant-push_forms-loop-x
invariant-push_forms-loop-x l =
    (l.out.items ++ concat (forms (plains (drop l.x-index l.items))) ≡ l.initial.out.items
    ++ concat (forms (plains l.items)))
    × StartsWith l.out.items l.initial.out.items
    × RiseSoFar l.out.items l.from l.until l.rising (forms (plains (drop l.x-index l.items))) (forms (plains l.items))

abbrev pub invariant-push_entry_forms-loop-e : goal.invariant-push_entry_forms-loop-e
invariant-push_entry_forms-loop-e l =
    (l.out.items ++ concat (map joined (entry_forms (pairs (map key_and_value (drop l.e-index l.entries)))))
    ≡ l.initial.out.items ++ concat (map joined (entry_forms (pairs (map key_and_value l.entries)))))
    × StartsWith l.out.items l.initial.out.items
    × RiseSoFar l.out.items l.from l.until l.rising
    (keys (entry_forms (pairs (map key_and_value (drop l.e-index l.entries)))))
    (keys (entry_forms (pairs (map key_and_value l.entries))))
