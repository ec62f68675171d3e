use Rattle.std.proofs.Common.{◌≡◌, ◌++◌, take}
use Rattle.gk_sturdy.proofs.answering.add_copies.Given as goal

abbrev pub invariant-loop-caveat : goal.invariant-loop-caveat
invariant-loop-caveat l = l.all.items ≡ l.initial.all.items ++ take l.caveat-index l.more
