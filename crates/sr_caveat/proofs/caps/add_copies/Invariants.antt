-- What lasts in the loops of `add_copies`, and what falls.
use Rattle.std.proofs.Common.{◌≡◌, ◌++◌, take}
use Rattle.sr_caveat.proofs.caps.add_copies.Given as goal

abbrev pub invariant-loop-caveat : goal.invariant-loop-caveat
invariant-loop-caveat l = l.all.items ≡ l.initial.all.items ++ take l.caveat-index l.more
