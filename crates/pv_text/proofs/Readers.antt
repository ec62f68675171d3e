-- Readers, against what is spelled and where reading stops.
use Rattle.std.proofs.Common.{◌≡◌, ℕ, Bool, List, [], ◌∷◌, ◌++◌, Result, Ok, Err, refl, inl, inr, ◌⊎◌}
use Rattle.pv_read.specs.Results.{Fault, ◌>>=◌}
use Rattle.pv_read.specs.Lemmas.Binds.{Told, told_ok, told_err}
use Rattle.pv_lex.specs.Gaps.{after_blank}
use Rattle.pv_lex.specs.declared.faults.TextKind.{TextKind}
use Rattle.pv_text.specs.Spells.{Spelling}
use Rattle.pv_text.specs.Stops.{Stopping}
use Rattle.pv_text.specs.Reading.{Reader}
use Rattle.pv_text.specs.Lemmas.Begins.{Begins}

pub list_is : (s : List ℕ) → (s ≡ []) ⊎ ((b : ℕ) × (bs : List ℕ) × (s ≡ b ∷ bs))
list_is [] = inl refl
list_is (b ∷ bs) = inr (b, bs, refl)

pub result_is : {A E : Type 0} (o : Result A E) → ((x : A) × (o ≡ Ok x)) ⊎ ((e : E) × (o ≡ Err e))
result_is (Ok x) = inl (x, refl)
result_is (Err e) = inr (e, refl)

-- what holds of an answer or of a fault holds as more
pub told_as : {A E : Type 0} (P P' : A → Type 0) (Q Q' : E → Type 0) (o : Result A E) → Told P Q o
    → ((x : A) → P x → P' x)
    → ((e : E) → Q e → Q' e) → Told P' Q' o
told_as P P' Q Q' (Ok x) h f g = f x h
told_as P P' Q Q' (Err e) h f g = g e h

-- the bytes begin with a text that spells an x before the rest
abbrev pub Front : {A : Type 0} → Spelling A → List ℕ → A → List ℕ → Type 0
Front Spells bytes x r = (t : List ℕ) × (bytes ≡ t ++ r) × Spells t x r

-- what is answered of the bytes is spelled there, or stops there
abbrev pub IsTrueOf : {A : Type 0} → Spelling A → Stopping → List ℕ → Result (A × List ℕ) (Fault TextKind) → Type 0
IsTrueOf Spells Stops bytes o = Told (λ x. Front Spells bytes x.0 x.1) (λ f. Stops bytes f) o

-- the reader gives what is spelled, fails where it stops, and nothing else
pub record IsReader {A : Type 0} (reader : Reader A) (Spells : Spelling A) (Stops : Stopping) : Type 0 where
  pub tells : (bytes : List ℕ) → IsTrueOf Spells Stops bytes (reader bytes)
  pub read : (t : List ℕ) (x : A) (r : List ℕ) → Spells t x r → reader (t ++ r) ≡ Ok (x, r)
  pub told : (bytes : List ℕ) (f : Fault TextKind) → Stops bytes f → reader bytes ≡ Err f

-- a gap before what it reads counts for nothing
pub record SkipsGaps {A : Type 0} (commas : Bool) (at_end : Fault TextKind) (reader : Reader A)
    (Spells : Spelling A) : Type 0 where
  pub skips : (bytes : List ℕ) → reader (after_blank commas bytes) ≡ reader bytes
  pub ends : reader [] ≡ Err at_end
  pub begins : (t : List ℕ) (x : A) (r : List ℕ) → Spells t x r → Begins commas (t ++ r) r

module _ {A : Type 0} (reader : Reader A) (Spells : Spelling A) (Stops : Stopping)
    (is : IsReader reader Spells Stops) where
  pub found : (bytes : List ℕ) (x : A) (r : List ℕ) → reader bytes ≡ Ok (x, r) → Front Spells bytes x r
  found bytes x r e = told_ok _ _ (reader bytes) (x, r) (is.tells bytes) e

  pub stopped : (bytes : List ℕ) (f : Fault TextKind) → reader bytes ≡ Err f → Stops bytes f
  stopped bytes f e = told_err _ _ (reader bytes) f (is.tells bytes) e

  -- what comes behind
  pub and_then : {B : Type 0} (P : B → Type 0) (Q : Fault TextKind → Type 0) (bytes : List ℕ)
      (f : A × List ℕ → Result B (Fault TextKind))
      → ((x : A) (r : List ℕ) → Front Spells bytes x r → Told P Q (f (x, r)))
      → ((k : Fault TextKind) → Stops bytes k → Q k)
      → Told P Q (reader bytes >>= f)
  and_then P Q bytes f more stop = by (reader bytes) (is.tells bytes)
    where
      by : (o : Result (A × List ℕ) (Fault TextKind)) → IsTrueOf Spells Stops bytes o → Told P Q (o >>= f)
      by (Ok x) h = more x.0 x.1 h
      by (Err k) h = stop k h
