use Rattle.std.proofs.Common.{◌≡◌, ◌+◌, ◌-◌, ◌^◌, ◌≤◌, min, drop}
use Rattle.ds_space.specs.Wants.{weight_of_keys}
use Rattle.ds_space.proofs.weighing.weigh_keys.Given as goal

-- those so far, and the rest
abbrev pub invariant-loop-key : goal.invariant-loop-key
invariant-loop-key l = record {
  leads : min (l.total + weight_of_keys (drop l.key-index l.keys)) (2 ^ 64 - 1)
      ≡ min (weight_of_keys l.keys) (2 ^ 64 - 1);
  fits : l.total ≤ 2 ^ 64 - 1;
}
