use Rattle.std.proofs.Common.{◌≡◌}
use Rattle.ds_space.proofs.collecting.listed.Given as goal

abbrev pub invariant-loop-key : goal.invariant-loop-key
invariant-loop-key g l = l.list.items ≡ l.yielded
