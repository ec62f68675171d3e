use Rattle.std.proofs.Common.{◌≡◌, map, drop}
use Rattle.pv_value.specs.Plain.{plains, pairs}
use Rattle.pv_value.specs.Lemmas.Measures.{measure, measure_all, measure_pairs}
use Rattle.pv_value.specs.View.{key_and_value}
use Rattle.rl_packet.specs.Grammar.{all_wired, all_pairs_wired}
use Rattle.rl_packet.proofs.reading.+wired.Given as goal

abbrev pub decreases-is_wired : goal.decreases-is_wired
decreases-is_wired l = measure l.value.now

abbrev pub decreases-all_wired : goal.decreases-all_wired
decreases-all_wired l = measure_all (plains l.values.now)

abbrev pub decreases-all_pairs_wired : goal.decreases-all_pairs_wired
decreases-all_pairs_wired l = measure_pairs (pairs (map key_and_value l.entries.now))

abbrev pub invariant-all_wired-loop-x : goal.invariant-all_wired-loop-x
invariant-all_wired-loop-x l = all_wired (plains (drop l.x-index l.values)) ≡ all_wired (plains l.values)

abbrev pub invariant-all_pairs_wired-loop-e : goal.invariant-all_pairs_wired-loop-e
invariant-all_pairs_wired-loop-e l =
    all_pairs_wired (pairs (map key_and_value (drop l.e-index l.entries))) ≡ all_pairs_wired
    (pairs (map key_and_value l.entries))
