-- What lasts in the loops of `add_values`, and what falls.
use Rattle.std.proofs.Common.{◌≡◌, ◌++◌, take}
use Rattle.sr_caveat.proofs.caps.add_values.Given as goal

abbrev pub invariant-loop-value : goal.invariant-loop-value
invariant-loop-value l = l.all.items ≡ l.initial.all.items ++ take l.value-index l.more
