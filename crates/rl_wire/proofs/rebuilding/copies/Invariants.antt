-- The copies are those so far.
use Rattle.std.proofs.Common.{◌≡◌, take}
use Rattle.rl_wire.proofs.rebuilding.copies.Given as goal

abbrev pub invariant-loop-x : goal.invariant-loop-x
invariant-loop-x l = l.all.items ≡ take l.x-index l.values
