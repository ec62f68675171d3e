-- What lasts in the loops of `embedded`, and what falls.
use Rattle.std.proofs.Common.{◌≡◌, map, drop}
use Rattle.pv_value.specs.Plain.{plains, pairs}
use Rattle.pv_value.specs.Lemmas.Measures.{measure, measure_all, measure_pairs}
use Rattle.pv_value.specs.View.{key_and_value}
use Rattle.sr_caveat.specs.Embedded.{any_embedded, any_pair_embedded}
use Rattle.sr_caveat.proofs.embedded.+embedded.Given as goal

abbrev pub decreases-has_embedded : goal.decreases-has_embedded
decreases-has_embedded l = measure l.value.now

abbrev pub decreases-any_embedded : goal.decreases-any_embedded
decreases-any_embedded l = measure_all (plains l.values.now)

abbrev pub decreases-any_pair_embedded : goal.decreases-any_pair_embedded
decreases-any_pair_embedded l = measure_pairs (pairs (map key_and_value l.entries.now))

abbrev pub invariant-any_embedded-loop-x : goal.invariant-any_embedded-loop-x
invariant-any_embedded-loop-x l = any_embedded (plains (drop l.x-index l.values)) ≡ any_embedded
    (plains l.values)

abbrev pub invariant-any_pair_embedded-loop-e : goal.invariant-any_pair_embedded-loop-e
invariant-any_pair_embedded-loop-e l =
    any_pair_embedded (pairs (map key_and_value (drop l.e-index l.entries))) ≡ any_pair_embedded
    (pairs (map key_and_value l.entries))
