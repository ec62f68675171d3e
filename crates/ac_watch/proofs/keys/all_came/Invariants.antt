use Rattle.std.proofs.Common.{◌≡◌, map}
use Rattle.ds_space.specs.declared.space.Change.TheVariants.{Came}
use Rattle.ac_watch.proofs.keys.all_came.Given as goal

abbrev pub invariant-loop-key : goal.invariant-loop-key
invariant-loop-key l = l.changes.items ≡ map Came l.yielded
