-- What was added, and then what stands for the caveats that are left, is what is added of all.
use Rattle.std.proofs.Common.{◌≡◌, ◌++◌, map, drop}
use Rattle.rl_wire.specs.Crossing.{caveat_kept}
use Rattle.rl_wire.proofs.wires.add_kept.Given as goal

abbrev pub invariant-loop-caveat : goal.invariant-loop-caveat
invariant-loop-caveat l =
    l.all.items ++ map caveat_kept (drop l.caveat-index l.caveats) ≡ l.fn.all.items ++ map caveat_kept l.caveats
