use Rattle.std.proofs.Common.{◌≡◌, ◌++◌, map}
use Rattle.ds_space.specs.Changes.{Came}
use Rattle.ds_space.proofs.comparing.push_came.Given as goal

abbrev pub invariant-loop-key : goal.invariant-loop-key
invariant-loop-key l = l.changes.items ≡ l.initial.changes.items ++ map Came l.yielded
