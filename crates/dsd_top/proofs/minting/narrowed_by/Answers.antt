-- One caveat more is put behind the others, or isn't one.
use Rattle.std.proofs.Common.{ℕ, ◌+◌, List, drop, string_bytes, Err, refl, subst, sym}
use Rattle.pv_value.specs.Plain.{Plain}
use Rattle.gk_sturdy.specs.declared.refs.SturdyRef.{SturdyRef}
use Rattle.dsd_top.specs.Asked.{texts}
use Rattle.dsd_top.specs.Minting.{IsPlainText, IsNarrowedBy, IsFound}
use Rattle.dsd_top.proofs.Minted.{AreNarrowedSoFar, words_drop, words_end, one_narrowed, not_narrowed, refuted}
use Rattle.dsd_top.proofs.minting.narrowed_by.Goals as goal

pub loop-caveat-init : goal.loop-caveat-init
loop-caveat-init c = record { found = λ s h. h; only = λ s h. h }

pub loop-caveat-preserved : goal.loop-caveat-preserved
loop-caveat-preserved c =
    let ws = c.args.caveats.now in
    let i = c.loop-caveat.caveat-index in
    let w = c.caveat-item.result in
    let word = c.as_str.ensures.value in
    let next = words_drop ws i w c.loop-caveat-test.true c.caveat-item.is in
    let Left : List (List ℕ) → Type 0 = λ left.
    AreNarrowedSoFar (texts ws) left c.args.reference c.loop-caveat.narrowed in
    let Now : SturdyRef → Type 0 = λ r.
    AreNarrowedSoFar (texts ws) (texts (drop (i + 1) ws)) c.args.reference r in
    subst Now (sym c.in_ok-narrowed.ensures.narrowed)
    (one_narrowed (texts ws) (texts (drop (i + 1) ws)) c.args.reference c.loop-caveat.narrowed (string_bytes w)
    (subst Left next c.loop-caveat.invariant) c.in_ok-caveat.caveat (rw word at c.in_ok-caveat.ensures.found)
    (rw word at c.in_ok-caveat.ensures.only))

pub returns-in_err-caveat : goal.returns-in_err-caveat
returns-in_err-caveat c =
    let ws = c.args.caveats.now in
    let i = c.loop-caveat.caveat-index in
    let w = c.caveat-item.result in
    let word = c.as_str.ensures.value in
    let next = words_drop ws i w c.loop-caveat-test.true c.caveat-item.is in
    let Left : List (List ℕ) → Type 0 = λ left.
    AreNarrowedSoFar (texts ws) left c.args.reference c.loop-caveat.narrowed in
    let Found : List ℕ → Type 0 = λ t.
    IsFound {T = Plain} {A = Plain} (λ v. v) (IsPlainText t) (Err c.in_err-caveat.field-0.0) in
    refuted (λ v. v) (IsPlainText (string_bytes w)) (λ r. r) (IsNarrowedBy (texts ws) c.args.reference)
    c.from_residual.result c.in_err-caveat.field-0.0 c.from_residual.ensures.1
    (not_narrowed (texts ws) (texts (drop (i + 1) ws)) c.args.reference c.loop-caveat.narrowed (string_bytes w)
    (subst Left next c.loop-caveat.invariant)) (subst Found word c.in_err-caveat.ensures.found)

pub returns : goal.returns
returns c =
    let ws = c.args.caveats.now in
    let now = c.loop-caveat.narrowed in
    let Is : List (List ℕ) → Type 0 = λ left. IsNarrowedBy left now now in
    c.loop-caveat.invariant.found now
    (subst Is (sym (words_end ws c.loop-caveat.caveat-index c.loop-caveat-test.false)) refl)
