-- A walk goes from a value to those inside it, and what was held and what is still to be found make the list.
use Rattle.std.proofs.Common.{◌≡◌, ◌++◌, map, drop}
use Rattle.pv_value.specs.Plain.{plains, pairs}
use Rattle.pv_value.specs.View.{key_and_value}
use Rattle.pv_value.specs.Lemmas.Measures.{measure, measure_all, measure_pairs}
use Rattle.rl_wire.specs.Crossing.{all_held_in, all_pairs_held_in}
use Rattle.rl_wire.proofs.held.+collect.Given as goal

abbrev pub decreases-collect : goal.decreases-collect
decreases-collect l = measure l.value.now

abbrev pub decreases-collect_all : goal.decreases-collect_all
decreases-collect_all l = measure_all (plains l.values.now)

abbrev pub decreases-collect_entries : goal.decreases-collect_entries
decreases-collect_entries l = measure_pairs (pairs (map key_and_value l.entries.now))

abbrev pub invariant-collect_all-loop-x : goal.invariant-collect_all-loop-x
invariant-collect_all-loop-x l =
    l.held.items ++ all_held_in (plains (drop l.x-index l.values))
    ≡ l.fn.held.items ++ all_held_in (plains l.values)

abbrev pub invariant-collect_entries-loop-e : goal.invariant-collect_entries-loop-e
invariant-collect_entries-loop-e l =
    l.held.items ++ all_pairs_held_in (pairs (map key_and_value (drop l.e-index l.entries)))
    ≡ l.fn.held.items ++ all_pairs_held_in (pairs (map key_and_value l.entries))
