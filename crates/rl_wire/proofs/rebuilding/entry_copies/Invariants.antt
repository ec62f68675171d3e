-- The copies are those so far.
use Rattle.std.proofs.Common.{◌≡◌, take}
use Rattle.rl_wire.proofs.rebuilding.entry_copies.Given as goal

abbrev pub invariant-loop-e : goal.invariant-loop-e
invariant-loop-e l = l.all.items ≡ take l.e-index l.entries
