use Rattle.std.proofs.Common.{◌≡◌, ◌+◌, ◌-◌, ◌^◌, ◌≤◌, min, drop}
use Rattle.ds_skeleton.specs.Keys.{weight_of_entries}
use Rattle.ds_skeleton.proofs.listing.weigh.Given as goal

-- those so far, and the rest
abbrev pub invariant-loop-key : goal.invariant-loop-key
invariant-loop-key l = record {
  leads : min (l.total + weight_of_entries (drop l.key-index l.keys.items)) (2 ^ 64 - 1)
      ≡ min (weight_of_entries l.keys.items) (2 ^ 64 - 1);
  fits : l.total ≤ 2 ^ 64 - 1;
}
