-- One step over the elements of a compound.
use Rattle.std.proofs.Common.{◌≡◌, ℕ, zero, suc, ◌+◌, List, [], ◌∷◌, ◌++◌, Result, Ok, Err, refl, ap, ◌∙◌}
use Rattle.std.proofs.Common.{arith}
use Rattle.std.specs.Prelude.{◌==◌, if◌then◌else◌}
use Rattle.std.proofs.lemmas.Bool.{eq-eqb, ne_eqb}
use Rattle.pv_read.specs.Results.{◌>>=◌}
use Rattle.pv_read.specs.Elements.{elements_at}
use Rattle.pv_read.specs.Lemmas.Fronts.{behind_front, behind_front_more}

module _ {A E : Type 0} (skip : List ℕ → List ℕ) (close : ℕ) (at_end : E) (element : List ℕ → Result (A × List ℕ) E)
  where
    -- by what is behind the skipped bytes
    abbrev after : ℕ → List ℕ → Result (List A × List ℕ) E
    after k rest = elim rest [
      | [] ↦ Err at_end
      | b ∷ bs ↦ if b == close then Ok ([], bs)
          else (element (b ∷ bs) >>= λ x. elements_at skip close at_end element k x.1 >>= λ xs. Ok (x.0 ∷ xs.0, xs.1))
    ]

    elements_is : (k : ℕ) (bytes : List ℕ) → elements_at skip close at_end element (suc k) bytes ≡ after k (skip bytes)
    elements_is k bytes = refl

    -- no bytes are left
    pub elements_none : (k : ℕ) (bytes : List ℕ) → skip bytes ≡ []
        → elements_at skip close at_end element k bytes ≡ Err at_end
    elements_none zero bytes e = refl
    elements_none (suc k) bytes e = elements_is k bytes ∙ ap (after k) e

    closes : (k : ℕ) (bs : List ℕ) (b : ℕ) → b ≡ close → after k (b ∷ bs) ≡ Ok ([], bs)
    closes k bs b t = rw (eq-eqb b close t) refl

    -- the close
    pub elements_end : (k : ℕ) (bytes bs : List ℕ) (b : ℕ) → skip bytes ≡ b ∷ bs → b ≡ close
        → elements_at skip close at_end element (suc k) bytes ≡ Ok ([], bs)
    elements_end k bytes bs b e t = elements_is k bytes ∙ ap (after k) e ∙ closes k bs b t

    reads : (k : ℕ) (bs : List ℕ) (b : ℕ) (x : A) (more : List ℕ) → (b ≡ close → ⊥) → element (b ∷ bs) ≡ Ok (x, more)
        → after k (b ∷ bs) ≡ behind_front (x ∷ []) (elements_at skip close at_end element k more)
    reads k bs b x more t r = rw (ne_eqb b close t, r) refl

    -- an element, and what is behind it
    pub elements_first : (k : ℕ) (bytes bs : List ℕ) (b : ℕ) (x : A) (more : List ℕ) → skip bytes ≡ b ∷ bs
        → (b ≡ close → ⊥)
        → element (b ∷ bs) ≡ Ok (x, more)
        → elements_at skip close at_end element (suc k) bytes ≡ behind_front (x ∷ [])
        (elements_at skip close at_end element k more)
    elements_first k bytes bs b x more e t r = elements_is k bytes ∙ ap (after k) e ∙ reads k bs b x more t r

    stops : (k : ℕ) (bs : List ℕ) (b : ℕ) (f : E) → (b ≡ close → ⊥) → element (b ∷ bs) ≡ Err f
        → after k (b ∷ bs) ≡ Err f
    stops k bs b f t r = rw (ne_eqb b close t, r) refl

    -- an element that fails
    pub elements_fail : (k : ℕ) (bytes bs : List ℕ) (b : ℕ) (f : E) → skip bytes ≡ b ∷ bs → (b ≡ close → ⊥)
        → element (b ∷ bs) ≡ Err f → elements_at skip close at_end element (suc k) bytes ≡ Err f
    elements_fail k bytes bs b f e t r = elements_is k bytes ∙ ap (after k) e ∙ stops k bs b f t r

    -- what was read and what is left lead to what all leads to: one element more
    pub elements_step : (n m : ℕ) (front new : List A) (bytes bs : List ℕ) (b : ℕ) (x : A) (more : List ℕ)
        (all : Result (List A × List ℕ) E)
        → behind_front front (elements_at skip close at_end element n bytes) ≡ all → m + 1 ≡ n → skip bytes ≡ b ∷ bs
        → (b ≡ close → ⊥) → element (b ∷ bs) ≡ Ok (x, more) → new ≡ front ++ x ∷ []
        → behind_front new (elements_at skip close at_end element m more) ≡ all
    elements_step zero m front new bytes bs b x more all i e r t h is = absurd (omega (arith, e))
    elements_step (suc k) m front new bytes bs b x more all i e r t h is =
        let same : k ≡ m = omega (arith, e) in
        rw (
          is,
          behind_front_more front (x ∷ []) (elements_at skip close at_end element m more),
          ← same,
          ← elements_first k bytes bs b x more r t h,
        ) i
