use Rattle.std.proofs.Common.{◌≡◌, map}
use Rattle.ds_space.specs.declared.space.Change.TheVariants.{Left}
use Rattle.ac_watch.proofs.keys.all_left.Given as goal

abbrev pub invariant-loop-key : goal.invariant-loop-key
invariant-loop-key l = l.changes.items ≡ map Left l.yielded
