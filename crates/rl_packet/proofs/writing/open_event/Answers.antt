use Rattle.std.proofs.Common.{◌≡◌, ℕ, ◌<◌, ◌≤◌, List, [], ◌∷◌, ◌++◌, length, get_or, OnOk, subst, sym, ap, ◌∙◌}
use Rattle.std.proofs.Common.{append_assoc, arith}
use Rattle.pv_value.specs.Plain.{symbol}
use Rattle.pv_binary.specs.Written.{written}
use Rattle.pv_binary.proofs.Varints.{varint_last}
use Rattle.rl_packet.proofs.writing.open_event.Goals as goal

short : (out word : List ℕ) → length word < 128 → out ++ 0xb4 ∷ 0xb3 ∷ length word ∷ word
    ≡ out ++ 0xb4 ∷ written (symbol word)
short out word l = ap (λ (s : List ℕ). out ++ 0xb4 ∷ 0xb3 ∷ (s ++ word)) (sym (varint_last (length word) l))

letter : (out word : List ℕ) → 1 ≤ length word → length word < 2
    → out ++ 0xb4 ∷ 0xb3 ∷ 1 ∷ get_or word 0 0 ∷ [] ≡ out ++ 0xb4 ∷ written (symbol word)
letter out [] some few = absurd (omega arith)
letter out (x ∷ []) some few = short out (x ∷ []) (omega arith)
letter out (x ∷ y ∷ ys) some few = absurd (omega arith)

pub returns-in-len1-clause-all : goal.returns-in-len1-clause-all
returns-in-len1-clause-all c =
    let out = c.args.out.now.items in
    let seen = c.as_bytes.result.now in
    let is : out ++ 0xb4 ∷ 0xb3 ∷ 1 ∷ get_or seen 0 0 ∷ [] ≡ out ++ 0xb4 ∷ written (symbol c.args.word.now) =
    letter out seen c.in-len1.len_at_least c.in-len1.len_below
    ∙ ap (λ (s : List ℕ). out ++ 0xb4 ∷ written (symbol s)) c.as_bytes.ensures.value in
    subst (λ (s : List ℕ). OnOk c.push_bytes.result (c.push_bytes.new.out.items ≡ s)) is c.push_bytes.ensures.all

pub returns-clause-all : goal.returns-clause-all
returns-clause-all c =
    let out = c.args.out.now.items in
    let word = c.args.word.now in
    let is : c.push_bytes-2.new.out.items ++ c.as_bytes-2.result.now ≡ out ++ 0xb4 ∷ written (symbol word) =
    ap (λ (s : List ℕ). c.push_bytes-2.new.out.items ++ s) c.as_bytes-2.ensures.value
    ∙ ap (λ (s : List ℕ). s ++ word) c.in_ok-push_bytes.ensures.all
    ∙ append_assoc out (0xb4 ∷ 0xb3 ∷ length word ∷ []) word ∙ short out word c.requires in
    subst (λ (s : List ℕ). OnOk c.push_bytes-3.result (c.push_bytes-3.new.out.items ≡ s)) is
    c.push_bytes-3.ensures.all
