-- One step over the values of a compound.
use Rattle.std.proofs.Common.{◌≡◌, ℕ, zero, suc, ◌+◌, ◌<◌, List, [], ◌∷◌, length, Ok, Err, refl, sym, ap, ◌∙◌, arith}
use Rattle.std.proofs.Common.{subst}
use Rattle.std.proofs.lemmas.Bool.{eq-eqb, ne_eqb}
use Rattle.pv_read.specs.Results.{Fault}
use Rattle.pv_binary.specs.Reading.{no_tag}
use Rattle.pv_binary.specs.declared.faults.BinKind.{BinKind}
use Rattle.pv_stream.specs.Scans.{Behind, past_end, past_entry}

module _ (total : ℕ) (inner : List ℕ → Behind) where
  goes_on : (k b : ℕ) (after more : List ℕ) → (b ≡ 0x84 → ⊥) → inner (b ∷ after) ≡ Ok more
      → past_end total inner (suc k) (b ∷ after) ≡ past_end total inner k more
  goes_on k b after more other is = rw (ne_eqb b 0x84 other, is) refl

  -- one value more
  pub passed : (k m : ℕ) (rest after more : List ℕ) (b : ℕ) (all : Behind) → past_end total inner k rest ≡ all
      → m + 1 ≡ k → rest ≡ b ∷ after → (b ≡ 0x84 → ⊥) → inner rest ≡ Ok more → past_end total inner m more ≡ all
  passed zero m rest after more b all so one is other first = absurd (omega (arith, one))
  passed (suc k) m rest after more b all so one is other first =
      let same : m ≡ k = omega (arith, one) in
      ap (λ n. past_end total inner n more) same
      ∙ sym (goes_on k b after more other (subst (λ (y : List ℕ). inner y ≡ Ok more) is first))
      ∙ ap (past_end total inner (suc k)) (sym is) ∙ so

  -- no bytes are left
  pub none_left : (k : ℕ) (rest : List ℕ) (all : Behind) → past_end total inner k rest ≡ all → length rest ≡ 0
      → all ≡ Err (no_tag total)
  none_left zero rest all so none = sym so
  none_left (suc k) [] all so none = sym so
  none_left (suc k) (b ∷ bs) all so none = absurd (omega (arith, none))

  -- the end
  pub ended : (k : ℕ) (rest after : List ℕ) (b : ℕ) (all : Behind) → past_end total inner k rest ≡ all → 0 < k
      → rest ≡ b ∷ after → b ≡ 0x84 → all ≡ Ok after
  ended zero rest after b all so some is end = absurd (omega (arith, some))
  ended (suc k) rest after b all so some is end =
      sym so ∙ ap (past_end total inner (suc k)) is ∙ (rw (eq-eqb b 0x84 end) refl)

  -- a value isn't there
  pub failed : (k : ℕ) (rest after : List ℕ) (b : ℕ) (all : Behind) (f : Fault BinKind)
      → past_end total inner k rest ≡ all
      → 0 < k → rest ≡ b ∷ after → (b ≡ 0x84 → ⊥) → inner rest ≡ Err f → all ≡ Err f
  failed zero rest after b all f so some is other first = absurd (omega (arith, some))
  failed (suc k) rest after b all f so some is other first =
      sym so ∙ ap (past_end total inner (suc k)) is
      ∙ (rw (ne_eqb b 0x84 other, subst (λ (y : List ℕ). inner y ≡ Err f) is first) refl)

-- a key and its value were passed
pub entry_passed : (inner : List ℕ → Behind) (rest middle more : List ℕ) → inner rest ≡ Ok middle
    → inner middle ≡ Ok more → past_entry inner rest ≡ Ok more
entry_passed inner rest middle more h g = rw h g
