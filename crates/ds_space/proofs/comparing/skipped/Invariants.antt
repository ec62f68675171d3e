use Rattle.std.proofs.Common.{◌≡◌, drop}
use Rattle.ds_space.specs.Changes.{skipped}
use Rattle.ds_space.proofs.comparing.skipped.Given as goal

abbrev pub invariant-loop-i : goal.invariant-loop-i
invariant-loop-i l = skipped l.key (drop l.i l.keys) ≡ skipped l.key l.keys
