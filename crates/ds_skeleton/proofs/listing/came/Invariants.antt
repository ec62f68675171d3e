use Rattle.std.proofs.Common.{◌≡◌, map}
use Rattle.ds_space.specs.declared.space.Change.TheVariants.{Came}
use Rattle.ds_skeleton.specs.Keys.{key_value}
use Rattle.ds_skeleton.proofs.listing.came.Given as goal

abbrev pub invariant-loop-key : goal.invariant-loop-key
invariant-loop-key l = l.changes.items ≡ map (λ q. Came (key_value q)) l.yielded
