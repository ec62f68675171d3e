use Rattle.std.proofs.Common.{◌≡◌, ◌+◌, ◌-◌, ◌^◌, ◌≤◌, min, drop}
use Rattle.ac_watch.specs.Watching.{weight_of_all}
use Rattle.ac_watch.proofs.weighing.weigh_all.Given as goal

-- those so far, and the rest
abbrev pub invariant-loop-value : goal.invariant-loop-value
invariant-loop-value l = record {
  leads : min (l.total + weight_of_all (drop l.value-index l.values)) (2 ^ 64 - 1)
      ≡ min (weight_of_all l.values) (2 ^ 64 - 1);
  fits : l.total ≤ 2 ^ 64 - 1;
}
