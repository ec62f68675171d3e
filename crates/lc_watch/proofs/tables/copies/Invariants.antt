-- The copies are those so far.
use Rattle.std.proofs.Common.{◌≡◌, take}
use Rattle.lc_watch.proofs.tables.copies.Given as goal

abbrev pub invariant-loop-value : goal.invariant-loop-value
invariant-loop-value l = l.made.items ≡ take l.value-index l.values
