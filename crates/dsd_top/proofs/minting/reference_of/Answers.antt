use Rattle.std.proofs.Common.{subst}
use Rattle.gk_sturdy.specs.declared.refs.SturdyRef.{SturdyRef}
use Rattle.dsd_top.specs.Asked.{texts, Minting}
use Rattle.dsd_top.specs.Minting.{IsMintedBy, IsFound}
use Rattle.dsd_top.proofs.Minted.{minted_found}
use Rattle.dsd_top.proofs.minting.reference_of.Goals as goal

pub returns : goal.returns
returns c =
    let m : Minting = record {
      oid = c.minting.inside.oid.now;
      key = c.minting.inside.key.now;
      caveats = texts c.minting.inside.caveats.now;
    } in
    let is = rw c.deref.ensures.value at c.in_ok-reference.ensures.minted in
    let Is : Minting → Type 0 = λ n. IsFound (λ (r : SturdyRef). r) (IsMintedBy n) c.narrowed_by.result in
    subst Is c.minting.view_is
    (minted_found m c.in_ok-oid.oid c.in_ok-key.key.items c.in_ok-oid.ensures.found c.in_ok-oid.ensures.only
    c.in_ok-key.ensures c.narrowed_by.result (rw is at c.narrowed_by.ensures))
