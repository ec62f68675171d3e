-- What is gathered is what stands from here on.
use Rattle.std.proofs.Common.{◌≡◌, ◌≤◌, drop, length}
use Rattle.std.specs.Ordering.{nat_cmp}
use Rattle.pv_value.specs.Sets.{ascending_by}
use Rattle.rl_ports.proofs.oids.gathered.Given as goal

abbrev pub invariant-loop-left : goal.invariant-loop-left
invariant-loop-left l =
    record {
      keys : l.gathered.keys ≡ ascending_by nat_cmp (drop l.left l.numbers);
      within : l.left ≤ length l.numbers;
    }

abbrev pub decreases-loop-left : goal.decreases-loop-left
decreases-loop-left l = l.left
