-- What lasts in the loops of `depth_of_keys`, and what falls.
use Rattle.std.proofs.Common.{◌≡◌, ◌≤◌, drop, min, max, map}
use Rattle.pv_value.specs.View.{key_and_value}
use Rattle.pv_value.specs.Depth.{deepest}
use Rattle.sr_caveat.specs.View.{keys_of}
use Rattle.sr_weight.proofs.labels.depth_of_keys.Given as goal

abbrev pub invariant-loop-e : goal.invariant-loop-e
invariant-loop-e l =
    record {
      shallow : l.deepest ≤ 4294967295;
      depth : min (max l.deepest (deepest (keys_of (map key_and_value (drop l.e-index l.entries))))) 4294967295
          ≡ min (deepest (keys_of (map key_and_value l.entries))) 4294967295;
    }
