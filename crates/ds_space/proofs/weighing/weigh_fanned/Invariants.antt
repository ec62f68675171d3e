use Rattle.std.proofs.Common.{◌≡◌, ◌+◌, ◌-◌, ◌^◌, ◌≤◌, min, drop}
use Rattle.ds_space.specs.Fans.{weight_of_fanned}
use Rattle.ds_space.proofs.weighing.weigh_fanned.Given as goal

-- those so far, and the rest
abbrev pub invariant-loop-fanned : goal.invariant-loop-fanned
invariant-loop-fanned l = record {
  leads : min (l.total + weight_of_fanned (drop l.fanned-index l.list)) (2 ^ 64 - 1)
      ≡ min (weight_of_fanned l.list) (2 ^ 64 - 1);
  fits : l.total ≤ 2 ^ 64 - 1;
}
