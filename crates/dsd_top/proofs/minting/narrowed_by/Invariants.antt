use Rattle.std.proofs.Common.{drop}
use Rattle.dsd_top.specs.Asked.{texts}
use Rattle.dsd_top.proofs.Minted.{AreNarrowedSoFar}
use Rattle.dsd_top.proofs.minting.narrowed_by.Given as goal

-- the caveats so far are put behind the others
abbrev pub invariant-loop-caveat : goal.invariant-loop-caveat
invariant-loop-caveat l =
    AreNarrowedSoFar (texts l.caveats) (texts (drop l.caveat-index l.caveats)) l.fn.reference l.narrowed
