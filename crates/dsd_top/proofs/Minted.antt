-- What is found of the words of `mint`.
use Rattle.std.proofs.Common.{◌≡◌, ℕ, ◌+◌, ◌<◌, ◌≤◌, List, [], ◌∷◌, length, drop, get_or, string_bytes}
use Rattle.std.proofs.Common.{Result, Ok, Err, IfOk, refl, sym, subst, ◌∙◌, ◌⊎◌, inl, inr}
use Rattle.std.specs.Result.{IsErrAnd}
use Rattle.std.specs.declared.string.String.{String}
use Rattle.std.specs.declared.alloc.Global.{Global}
use Rattle.std.proofs.lemmas.List.{at_drop_more, at_drop_all}
use Rattle.hex.specs.Hex.{decode_of}
use Rattle.hex.specs.declared.error.FromHexError.{FromHexError}
use Rattle.hex.specs.declared.error.FromHexError.TheVariants as digits
use Rattle.pv_value.specs.Plain.{Plain}
use Rattle.pv_text.specs.Reads.{AreValuesOf}
use Rattle.gk_sturdy.specs.declared.refs.SturdyRef.{SturdyRef}
use Rattle.gk_sturdy.specs.Chain.{minted, narrowed}
use Rattle.dsd_top.specs.Asked.{texts, Minting}
use Rattle.dsd_top.specs.Minting.{IsPlainText, IsKey, IsNarrowedBy, IsMintedBy, IsReferenceLine, IsFound}
use Rattle.dsd_top.specs.Minting.{IsLone, IsShort, digits_fault}
use Rattle.dsd_top.specs.declared.minting.WordsFault.{WordsFault}
use Rattle.dsd_top.specs.declared.minting.WordsFault.TheVariants.{Bad, NoMemory}

-- what is refused for what it wants is refused
pub refuted : {T U A B : Type 0} (view : T → A) (P : A → Type 0) (seen : U → B) (Q : B → Type 0)
    (r : Result U WordsFault) (x : WordsFault) → IsErrAnd r (λ f. f ≡ x)
    → (((a : A) → P a → ⊥) → (b : B) → Q b → ⊥) → IsFound view P (Err x) → IsFound seen Q r
refuted view P seen Q (Ok u) x h lost none = absurd h
refuted view P seen Q (Err Bad) Bad h lost none = lost none
refuted view P seen Q (Err Bad) NoMemory h lost none = absurd (cc h)
refuted view P seen Q (Err NoMemory) x h lost none = tt

-- ---- values

same_head : (v w : Plain) (vs : List Plain) → vs ≡ v ∷ [] → vs ≡ w ∷ [] → w ≡ v
same_head v w vs p q = let both : v ∷ [] ≡ w ∷ [] = sym p ∙ q in cc both

module _ (text : List ℕ) (vs : List Plain) (are : AreValuesOf text vs)
    (only : (ws : List Plain) → AreValuesOf text ws → vs ≡ ws) where
  pub lone_found : (r : Result Plain WordsFault) → IsFound (λ v. v) (IsLone vs) r
      → IsFound (λ v. v) (IsPlainText text) r
  lone_found (Ok v) h = (subst (AreValuesOf text) h.0 are, h.1)
  lone_found (Err Bad) h = λ v is. h v (only (v ∷ []) is.0, is.1)
  lone_found (Err NoMemory) h = tt

  pub lone_only : (r : Result Plain WordsFault) → IsFound (λ v. v) (IsLone vs) r
      → IfOk r (λ v. (w : Plain) → IsPlainText text w → w ≡ v)
  lone_only (Ok v) h = λ w is. same_head v w vs h.0 (only (w ∷ []) is.0)
  lone_only (Err Bad) h = tt
  lone_only (Err NoMemory) h = tt

-- ---- keys

same_key : (text key other : List ℕ) → decode_of text ≡ Ok key → decode_of text ≡ Ok other → other ≡ key
same_key text key other p q = let both : Ok key ≡ Ok other = sym p ∙ q in cc both

pub short_found : {T : Type 0} (view : T → List ℕ) (text bytes : List ℕ) (r : Result T WordsFault)
    → decode_of text ≡ Ok bytes → IsFound view (IsShort bytes) r → IsFound view (IsKey text) r
short_found view text bytes (Ok x) is h =
    let P : List ℕ → Type 0 = λ k. decode_of text ≡ Ok k in (subst P (sym h.0) is, h.1)
short_found view text bytes (Err Bad) is h = λ key k. h key (same_key text bytes key is k.0, k.1)
short_found view text bytes (Err NoMemory) is h = tt

no_digits : (text key : List ℕ) (e : FromHexError) → (e ≡ digits.OutOfMemory → ⊥)
    → (e ≡ digits.OutOfMemory) ⊎ (decode_of text ≡ Err e) → IsKey text key → ⊥
no_digits text key e not (inl m) k = not m
no_digits text key e not (inr d) k = let both : Err e ≡ Ok key = sym d ∙ k.0 in absurd (cc both)

pub no_key : {T : Type 0} (view : T → List ℕ) (text : List ℕ) (e : FromHexError)
    → (e ≡ digits.OutOfMemory) ⊎ (decode_of text ≡ Err e)
    → IsFound {T = T} view (IsKey text) (Err (digits_fault e))
no_key view text digits.OutOfMemory h = tt
no_key view text digits.OddLength h = λ key k. no_digits text key digits.OddLength (λ m. absurd (cc m)) h k
no_key view text digits.InvalidStringLength h = λ key k.
    no_digits text key digits.InvalidStringLength (λ m. absurd (cc m)) h k
no_key view text (digits.InvalidHexCharacter c i) h = λ key k.
    no_digits text key (digits.InvalidHexCharacter c i) (λ m. absurd (cc m)) h k

-- ---- references

-- what is left of the words: the next, and the others
pub words_drop : (ws : List (String Global)) (i : ℕ) (w : String Global) → i < length ws → w ≡ get_or ws i w
    → texts (drop i ws) ≡ string_bytes w ∷ texts (drop (i + 1) ws)
words_drop ws i w h is = at_drop_more texts ws i w h ∙ rw (← is) refl

pub words_end : (ws : List (String Global)) (i : ℕ) → length ws ≤ i → texts (drop i ws) ≡ []
words_end ws i h = at_drop_all texts ws i h

-- so many caveats are put behind the others: what is left leads to the same references as all of them
pub record AreNarrowedSoFar (all left : List (List ℕ)) (first now : SturdyRef) : Type 0 where
  pub found : (s : SturdyRef) → IsNarrowedBy left now s → IsNarrowedBy all first s
  pub only : (s : SturdyRef) → IsNarrowedBy all first s → IsNarrowedBy left now s

module _ (all left : List (List ℕ)) (first now : SturdyRef) (t : List ℕ)
    (done : AreNarrowedSoFar all (t ∷ left) first now) where
  pub one_narrowed : (c : Plain) → IsPlainText t c → ((w : Plain) → IsPlainText t w → w ≡ c)
      → AreNarrowedSoFar all left first (narrowed c now)
  one_narrowed c is only = record {
    found = λ s h. done.found s (c, is, h);
    only = λ s h.
        let there = done.only s h in
        let P : Plain → Type 0 = λ x. IsNarrowedBy left (narrowed x now) s in
        subst P (only there.0 there.1) there.2;
  }

  pub not_narrowed : ((c : Plain) → IsPlainText t c → ⊥) → (s : SturdyRef) → IsNarrowedBy all first s → ⊥
  not_narrowed none s h = let there = done.only s h in none there.0 there.1

pub no_oid : (m : Minting) → ((v : Plain) → IsPlainText m.oid v → ⊥) → (r : SturdyRef) → IsMintedBy m r → ⊥
no_oid m none r is = none is.0 is.2

pub no_key_of : (m : Minting) → ((k : List ℕ) → IsKey m.key k → ⊥) → (r : SturdyRef) → IsMintedBy m r → ⊥
no_key_of m none r is = none is.1 is.3

module _ (m : Minting) (oid : Plain) (key : List ℕ) (is_oid : IsPlainText m.oid oid)
    (one_oid : (w : Plain) → IsPlainText m.oid w → w ≡ oid) (is_key : IsKey m.key key) where
  pub minted_found : (r : Result SturdyRef WordsFault) → IsFound (λ s. s) (IsNarrowedBy m.caveats (minted key oid)) r
      → IsFound (λ s. s) (IsMintedBy m) r
  minted_found (Ok s) h = (oid, key, is_oid, is_key, h)
  minted_found (Err Bad) h = λ s is.
      let o : is.0 ≡ oid = one_oid is.0 is.2 in
      let k : is.1 ≡ key = same_key m.key key is.1 is_key.0 is.3.0 in
      let P : Plain → Type 0 = λ x. IsNarrowedBy m.caveats (minted is.1 x) s in
      let Q : List ℕ → Type 0 = λ x. IsNarrowedBy m.caveats (minted x oid) s in
      h s (subst Q k (subst P o is.4))
  minted_found (Err NoMemory) h = tt

-- a reference has its line
pub no_line : (m : Minting) → ((r : SturdyRef) → IsMintedBy m r → ⊥) → (text : List ℕ) → IsReferenceLine m text → ⊥
no_line m none text is = none is.0 is.1
