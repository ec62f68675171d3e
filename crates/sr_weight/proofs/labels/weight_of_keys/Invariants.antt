-- What lasts in the loops of `weight_of_keys`, and what falls.
use Rattle.std.proofs.Common.{◌≡◌, ◌+◌, ◌≤◌, drop, min, map}
use Rattle.pv_value.specs.View.{key_and_value}
use Rattle.pv_value.specs.Weight.{sizes_with}
use Rattle.sr_caveat.specs.View.{keys_of}
use Rattle.sr_weight.proofs.labels.weight_of_keys.Given as goal

abbrev pub invariant-loop-e : goal.invariant-loop-e
invariant-loop-e l =
    record {
      light : l.total ≤ 18446744073709551615;
      weight : min (l.total + sizes_with 48 (keys_of (map key_and_value (drop l.e-index l.entries))))
          18446744073709551615
          ≡ min (sizes_with 48 (keys_of (map key_and_value l.entries))) 18446744073709551615;
    }
