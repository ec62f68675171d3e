-- What words spell, and that they spell nothing else.
use Rattle.std.proofs.Common.{◌≡◌, ℕ, ◌+◌, List, [], ◌∷◌, ◌++◌, Result, Ok}
use Rattle.std.proofs.Common.{refl, sym, ap, ◌∙◌, subst, arith, append_assoc, append-nil}
use Rattle.std.proofs.lemmas.Fmt.{decimal_injective}
use Rattle.pv_value.specs.Plain.{Plain, plains, sequence}
use Rattle.pv_canon.specs.Canonical.{canonical}
use Rattle.kp_keeper.specs.declared.records.Record.{Record}
use Rattle.dsd_top.specs.Minting.{IsPlainText}
use Rattle.dsd_top.specs.Numbers.{IsNumberWithin}
use Rattle.dsd_keep.specs.Asked.{Adding}
use Rattle.dsd_keep.specs.Requests.{IsForm, ArePlainTexts, AreCaveats, IsSpelledBy}

-- ---- one value

pub no_form : (w : List ℕ) → ((v : Plain) → IsPlainText w v → ⊥) → (f : List ℕ) → IsForm w f → ⊥
no_form w none f is = none is.0 is.1

pub one_form : (w : List ℕ) (v : Plain) → ((u : Plain) → IsPlainText w u → u ≡ v) → (f : List ℕ) → IsForm w f
    → f ≡ canonical v
one_form w v only f is = is.2 ∙ ap canonical (only is.0 is.1)

-- ---- values one after another

-- so many are read: with what is left they are all of them
pub record AreReadSoFar (all left : List (List ℕ)) (vs : List Plain) : Type 0 where
  pub found : (ws : List Plain) → ArePlainTexts left ws → ArePlainTexts all (vs ++ ws)
  pub only : (us : List Plain) → ArePlainTexts all us → (ws : List Plain) × (us ≡ vs ++ ws) × ArePlainTexts left ws

pub none_read : (all : List (List ℕ)) → AreReadSoFar all all []
none_read all = record { found = λ ws h. h; only = λ us h. (us, refl, h) }

module _ (all left : List (List ℕ)) (vs : List Plain) (t : List ℕ) (done : AreReadSoFar all (t ∷ left) vs) where
  rest_of : (c : Plain) → ((w : Plain) → IsPlainText t w → w ≡ c) → (us ws : List Plain) → us ≡ vs ++ ws
      → ArePlainTexts (t ∷ left) ws
      → (xs : List Plain) × (us ≡ (vs ++ c ∷ []) ++ xs) × ArePlainTexts left xs
  rest_of c one us [] e h = absurd h
  rest_of c one us (x ∷ xs) e h =
      let same : x ∷ xs ≡ c ∷ xs = ap (λ y. y ∷ xs) (one x h.0) in
      (xs, e ∙ ap (λ l. vs ++ l) same ∙ sym (append_assoc vs (c ∷ []) xs), h.1)

  pub one_read : (c : Plain) → IsPlainText t c → ((w : Plain) → IsPlainText t w → w ≡ c)
      → AreReadSoFar all left (vs ++ c ∷ [])
  one_read c is one = record {
    found = λ ws h. subst (ArePlainTexts all) (sym (append_assoc vs (c ∷ []) ws)) (done.found (c ∷ ws) (is, h));
    only = λ us h. let there = done.only us h in rest_of c one us there.0 there.1 there.2;
  }

  none_left : ((c : Plain) → IsPlainText t c → ⊥) → (ws : List Plain) → ArePlainTexts (t ∷ left) ws → ⊥
  none_left none [] h = h
  none_left none (w ∷ ws) h = none w h.0

  pub not_read : ((c : Plain) → IsPlainText t c → ⊥) → (us : List Plain) → ArePlainTexts all us → ⊥
  not_read none us h = let there = done.only us h in none_left none there.0 there.2

module _ (all left : List (List ℕ)) (vs : List Plain) (end : left ≡ []) (done : AreReadSoFar all left vs) where
  at_end : AreReadSoFar all [] vs
  at_end = subst (λ l. AreReadSoFar all l vs) end done

  pub all_read : ArePlainTexts all vs
  all_read = subst (ArePlainTexts all) (append-nil vs) (at_end.found [] tt)

  only_nil : (us ws : List Plain) → us ≡ vs ++ ws → ArePlainTexts [] ws → us ≡ vs
  only_nil us [] e h = e ∙ append-nil vs
  only_nil us (w ∷ ws) e h = absurd h

  pub all_same : (us : List Plain) → ArePlainTexts all us → us ≡ vs
  all_same us h = let there = at_end.only us h in only_nil us there.0 there.1 there.2

-- ---- caveats

pub no_caveats : (ws : List (List ℕ)) → ((vs : List Plain) → ArePlainTexts ws vs → ⊥) → (f : List ℕ) → AreCaveats ws f
    → ⊥
no_caveats ws none f is = none is.0 is.1

pub one_sequence : (ws : List (List ℕ)) (vs : List Plain) → ((us : List Plain) → ArePlainTexts ws us → us ≡ vs)
    → (f : List ℕ) → AreCaveats ws f → f ≡ canonical (sequence (plains vs))
one_sequence ws vs only f is = is.2 ∙ ap (λ us. canonical (sequence (plains us))) (only is.0 is.1)

-- ---- records

pub no_oid : (a : Adding) → ((f : List ℕ) → IsForm a.oid f → ⊥) → (r : Record) → IsSpelledBy a r → ⊥
no_oid a none r is = none r.oid is.oid

pub no_list : (a : Adding) → ((f : List ℕ) → AreCaveats a.caveats f → ⊥) → (r : Record) → IsSpelledBy a r → ⊥
no_list a none r is = none r.caveats is.caveats

same_number : (w : List ℕ) (m n : ℕ) → IsNumberWithin 1 8 w m → IsNumberWithin 1 8 w n → n ≡ m
same_number w m n p q = decimal_injective n m (omega (arith, q.1)) (omega (arith, p.1)) (sym q.2 ∙ p.2)

same_ok : {T E : Type 0} (r : Result T E) (x y : T) → r ≡ Ok x → r ≡ Ok y → y ≡ x
same_ok {T = T} {E = E} r x y p q = let both : ◌≡◌ {A = Result T E} (Ok x) (Ok y) = sym p ∙ q in cc both

module _ (a : Adding) (r : Record) (is : IsSpelledBy a r)
    (one_oid : (f : List ℕ) → IsForm a.oid f → f ≡ r.oid)
    (one_list : (f : List ℕ) → AreCaveats a.caveats f → f ≡ r.caveats) where
  pub one_record : (s : Record) → IsSpelledBy a s → s ≡ r
  one_record s too =
      let o = one_oid s.oid too.oid in
      let k = same_ok _ r.key s.key is.key.0 too.key.0 in
      let n = same_number a.space r.space s.space is.space too.space in
      let c = one_list s.caveats too.caveats in
      λ i. record { oid = o i; key = k i; space = n i; caveats = c i }
