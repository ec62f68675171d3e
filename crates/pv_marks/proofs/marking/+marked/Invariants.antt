use Rattle.std.proofs.Common.{◌≡◌, drop, map}
use Rattle.pv_value.specs.Plain.{plains, pairs}
use Rattle.pv_value.specs.Lemmas.Measures.{measure, measure_all, measure_pairs}
use Rattle.pv_value.specs.View.{key_and_value}
use Rattle.pv_marks.specs.Marks.{all_marked, pairs_marked}
use Rattle.pv_marks.proofs.marking.+marked.Given as goal

abbrev pub decreases-marked : goal.decreases-marked
decreases-marked l = measure l.value.now

abbrev pub decreases-all_marked : goal.decreases-all_marked
decreases-all_marked l = measure_all (plains l.items.now)

abbrev pub decreases-pairs_marked : goal.decreases-pairs_marked
decreases-pairs_marked l = measure_pairs (pairs (map key_and_value l.entries.now))

-- what is left leads to what all leads to
abbrev pub invariant-all_marked-loop-item : goal.invariant-all_marked-loop-item
invariant-all_marked-loop-item l =
    all_marked l.mark (plains (drop l.item-index l.items)) ≡ all_marked l.before (plains l.items)

abbrev pub invariant-pairs_marked-loop-entry : goal.invariant-pairs_marked-loop-entry
invariant-pairs_marked-loop-entry l =
    pairs_marked l.mark (pairs (map key_and_value (drop l.entry-index l.entries)))
    ≡ pairs_marked l.before (pairs (map key_and_value l.entries))
