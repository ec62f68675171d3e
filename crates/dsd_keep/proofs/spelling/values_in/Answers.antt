-- One value more is read, or isn't one.
use Rattle.std.proofs.Common.{◌≡◌, ℕ, ◌+◌, List, [], ◌∷◌, ◌++◌, drop, string_bytes, Err, sym, subst}
use Rattle.pv_value.specs.Plain.{Plain}
use Rattle.dsd_top.specs.Asked.{texts}
use Rattle.dsd_top.specs.Minting.{IsPlainText, IsFound}
use Rattle.dsd_top.proofs.Minted.{words_drop, words_end, refuted}
use Rattle.dsd_keep.specs.Requests.{ArePlainTexts}
use Rattle.dsd_keep.proofs.Spelled.{AreReadSoFar, none_read, one_read, not_read, all_read, all_same}
use Rattle.dsd_keep.proofs.spelling.values_in.Goals as goal

pub loop-word-init : goal.loop-word-init
loop-word-init c =
    let ws = c.args.words.now in
    subst (AreReadSoFar (texts ws) (texts ws)) (sym c.new-values.ensures.items) (none_read (texts ws))

pub loop-word-preserved : goal.loop-word-preserved
loop-word-preserved c =
    let ws = c.args.words.now in
    let i = c.loop-word.word-index in
    let w = c.word-item.result in
    let next = words_drop ws i w c.loop-word-test.true c.word-item.is in
    let Left : List (List ℕ) → Type 0 = λ left. AreReadSoFar (texts ws) left c.loop-word.values.items in
    let Now : List Plain → Type 0 = λ vs. AreReadSoFar (texts ws) (texts (drop (i + 1) ws)) vs in
    let word = c.as_str.ensures.value in
    subst Now (sym c.in_ok-push_value.ensures)
    (one_read (texts ws) (texts (drop (i + 1) ws)) c.loop-word.values.items (string_bytes w)
    (subst Left next c.loop-word.invariant) c.in_ok-value.value (rw word at c.in_ok-value.ensures.found)
    (rw word at c.in_ok-value.ensures.only))

pub returns-in_err-value-clause-found : goal.returns-in_err-value-clause-found
returns-in_err-value-clause-found c =
    let ws = c.args.words.now in
    let i = c.loop-word.word-index in
    let w = c.word-item.result in
    let next = words_drop ws i w c.loop-word-test.true c.word-item.is in
    let Left : List (List ℕ) → Type 0 = λ left. AreReadSoFar (texts ws) left c.loop-word.values.items in
    let Found : List ℕ → Type 0 = λ t.
    IsFound {T = Plain} {A = Plain} (λ v. v) (IsPlainText t) (Err c.in_err-value.field-0.0) in
    refuted (λ v. v) (IsPlainText (string_bytes w)) (λ vs. vs.items) (ArePlainTexts (texts ws)) c.from_residual.result
    c.in_err-value.field-0.0 c.from_residual.ensures.1
    (not_read (texts ws) (texts (drop (i + 1) ws)) c.loop-word.values.items (string_bytes w)
    (subst Left next c.loop-word.invariant)) (subst Found c.as_str.ensures.value c.in_err-value.ensures.found)

pub returns-clause-found : goal.returns-clause-found
returns-clause-found c =
    let ws = c.args.words.now in
    all_read (texts ws) _ c.loop-word.values.items (words_end ws c.loop-word.word-index c.loop-word-test.false)
    c.loop-word.invariant

pub returns-clause-only : goal.returns-clause-only
returns-clause-only c =
    let ws = c.args.words.now in
    all_same (texts ws) _ c.loop-word.values.items (words_end ws c.loop-word.word-index c.loop-word-test.false)
    c.loop-word.invariant
