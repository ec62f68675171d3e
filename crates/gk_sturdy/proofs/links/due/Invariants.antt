-- What is left to sign leads to what all leads to.
use Rattle.std.proofs.Common.{◌≡◌, map, drop}
use Rattle.pv_canon.specs.Canonical.{canonical}
use Rattle.gk_sturdy.specs.Chain.{chained, due}
use Rattle.gk_sturdy.proofs.links.due.Given as goal

abbrev pub invariant-loop-caveat : goal.invariant-loop-caveat
invariant-loop-caveat l = chained l.last (map canonical (drop l.caveat-index l.caveat-items)) ≡ due l.fn.key l.fn.r
