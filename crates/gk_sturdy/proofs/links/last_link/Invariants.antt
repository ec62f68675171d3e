-- What is left to sign leads to what all leads to.
use Rattle.std.proofs.Common.{◌≡◌, drop}
use Rattle.gk_sturdy.specs.Chain.{chained, chain}
use Rattle.gk_sturdy.proofs.links.last_link.Given as goal

abbrev pub invariant-loop-caveat : goal.invariant-loop-caveat
invariant-loop-caveat l = chained l.last (drop l.caveat-index l.caveats) ≡ chain l.fn.key l.fn.oid l.fn.caveats
