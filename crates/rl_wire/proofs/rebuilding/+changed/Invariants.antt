-- Values are crossed from the outside in, and the first that isn't the same is looked for before a list is made.
use Rattle.std.proofs.Common.{◌≡◌, ◌+◌, ◌*◌, ◌++◌, ◌∷◌, map, take, drop}
use Rattle.pv_value.specs.Plain.{plains, pairs}
use Rattle.pv_value.specs.View.{key_and_value}
use Rattle.pv_value.specs.Lemmas.Measures.{measure, measure_all, measure_pairs}
use Rattle.rl_wire.specs.Crossing.{crossed}
use Rattle.rl_wire.specs.Changes.{entry_crossed}
use Rattle.rl_wire.proofs.rebuilding.+changed.Given as goal

abbrev pub decreases-changed : goal.decreases-changed
decreases-changed g l = 2 * measure l.value.now

abbrev pub decreases-all_changed : goal.decreases-all_changed
decreases-all_changed g l = 2 * measure_all (plains l.values.now) + 1

abbrev pub decreases-changed_from : goal.decreases-changed_from
decreases-changed_from g l = 2 * measure_all (plains l.values.now)

abbrev pub decreases-entries_changed : goal.decreases-entries_changed
decreases-entries_changed g l = 2 * measure_pairs (pairs (map key_and_value l.entries.now)) + 1

abbrev pub decreases-entries_changed_from : goal.decreases-entries_changed_from
decreases-entries_changed_from g l = 2 * measure_pairs (pairs (map key_and_value l.entries.now))

-- those so far are the same
abbrev pub invariant-all_changed-loop-i : goal.invariant-all_changed-loop-i
invariant-all_changed-loop-i g l = map (crossed (g.W.Way.way l.way)) (take l.i l.values) ≡ take l.i l.values

abbrev pub invariant-entries_changed-loop-i : goal.invariant-entries_changed-loop-i
invariant-entries_changed-loop-i g l =
    map (entry_crossed (g.W.Way.way l.way)) (take l.i l.entries) ≡ take l.i l.entries

-- those so far, and what the rest becomes
abbrev pub invariant-changed_from-loop-later : goal.invariant-changed_from-loop-later
invariant-changed_from-loop-later g l =
    l.all.items ++ map (crossed (g.W.Way.way l.way)) (drop l.later l.values)
    ≡ take l.place l.values ++ l.fn.first ∷ map (crossed (g.W.Way.way l.way)) (drop (l.place + 1) l.values)

abbrev pub invariant-entries_changed_from-loop-later : goal.invariant-entries_changed_from-loop-later
invariant-entries_changed_from-loop-later g l =
    l.all.items ++ map (entry_crossed (g.W.Way.way l.way)) (drop l.later l.entries)
    ≡ take l.place l.entries ++ l.fn.first ∷ map (entry_crossed (g.W.Way.way l.way)) (drop (l.place + 1) l.entries)
