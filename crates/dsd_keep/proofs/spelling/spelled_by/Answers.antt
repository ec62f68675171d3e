-- The record that the words spell, and no other; or none, where one of them spells nothing.
use Rattle.std.proofs.Common.{◌≡◌, ℕ, List, sym, subst}
use Rattle.kp_keeper.specs.declared.records.Record.{Record}
use Rattle.dsd_top.specs.Asked.{texts}
use Rattle.dsd_top.specs.Minting.{IsFound, IsKey}
use Rattle.dsd_top.proofs.Minted.{refuted}
use Rattle.dsd_keep.specs.Asked.{Adding}
use Rattle.dsd_keep.specs.Requests.{IsForm, AreCaveats, IsSpelledBy}
use Rattle.dsd_keep.proofs.Spelled.{no_oid, no_list, one_record}
use Rattle.dsd_keep.proofs.spelling.spelled_by.Goals as goal

pub returns-in_err-oid-clause-found : goal.returns-in_err-oid-clause-found
returns-in_err-oid-clause-found c =
    let a : Adding = record {
      oid = c.adding.inside.oid.now;
      key = c.adding.inside.key.now;
      space = c.adding.inside.space.now;
      caveats = texts c.adding.inside.caveats.now;
    } in
    let Found : Adding → Type 0 = λ x.
    IsFound {T = Record} {A = Record} (λ r. r) (IsSpelledBy x) c.from_residual.result in
    subst Found c.adding.view_is
    (refuted {T = List ℕ} {U = Record} (λ form. form) (IsForm a.oid) (λ r. r) (IsSpelledBy a) c.from_residual.result
    c.in_err-oid.field-0.0 c.from_residual.ensures.1 (no_oid a) c.in_err-oid.ensures.found)

pub returns-in_err-caveats-clause-found : goal.returns-in_err-caveats-clause-found
returns-in_err-caveats-clause-found c =
    let a : Adding = record {
      oid = c.adding.inside.oid.now;
      key = c.adding.inside.key.now;
      space = c.adding.inside.space.now;
      caveats = texts c.adding.inside.caveats.now;
    } in
    let gone = c.from_residual-in_err-caveats in
    let Found : Adding → Type 0 = λ x.
    IsFound {T = Record} {A = Record} (λ r. r) (IsSpelledBy x) gone.result in
    subst Found c.adding.view_is
    (refuted {T = List ℕ} {U = Record} (λ form. form) (AreCaveats a.caveats) (λ r. r) (IsSpelledBy a) gone.result
    c.in_err-caveats.field-0.0 gone.ensures.1 (no_list a) c.in_err-caveats.ensures.found)

pub returns-clause-only : goal.returns-clause-only
returns-clause-only c =
    let a : Adding = record {
      oid = c.adding.inside.oid.now;
      key = c.adding.inside.key.now;
      space = c.adding.inside.space.now;
      caveats = texts c.adding.inside.caveats.now;
    } in
    let r : Record = record {
      oid = c.in_ok-oid.oid;
      key = c.in_ok-key-2.key;
      space = c.in-Some.space;
      caveats = c.in_ok-caveats.caveats;
    } in
    let is : IsSpelledBy a r = record {
      oid = c.in_ok-oid.ensures.found;
      key = subst (IsKey a.key) (sym c.in_ok-key-2.ensures) c.in_ok-key.ensures;
      space = c.in-Some.ensures;
      caveats = c.in_ok-caveats.ensures.found;
    } in
    let Only : Adding → Type 0 = λ x. (other : Record) → IsSpelledBy x other → other ≡ r in
    subst Only c.adding.view_is (one_record a r is c.in_ok-oid.ensures.only c.in_ok-caveats.ensures.only)
