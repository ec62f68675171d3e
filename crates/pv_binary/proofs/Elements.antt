-- One step of the loops over the elements of a compound.
use Rattle.std.proofs.Common.{◌≡◌, ℕ, zero, suc, ◌+◌, ◌<◌, List, [], ◌∷◌, ◌++◌, length, map, Result, Ok, Err, refl}
use Rattle.std.proofs.Common.{subst, sym, ap, ◌∙◌, arith}
use Rattle.std.proofs.lemmas.List.{append-nil, map-append}
use Rattle.pv_value.specs.Plain.{Plain}
use Rattle.pv_value.specs.View.{key_and_value}
use Rattle.pv_value.specs.declared.Entry.{Entry}
use Rattle.pv_read.specs.Results.{Fault}
use Rattle.pv_read.specs.Lemmas.Elements.{elements_none, elements_end, elements_fail, elements_step}
use Rattle.pv_read.specs.Lemmas.Fronts.{done, behind_front}
use Rattle.pv_binary.specs.Reading.{no_tag, Inner, entry_at, up_to_end}
use Rattle.pv_binary.specs.declared.faults.BinKind.{BinKind}

-- an element was read and appended
pub element_step : {A : Type 0} (total : ℕ) (element : List ℕ → Result (A × List ℕ) (Fault BinKind)) (n m : ℕ)
    (front new : List A) (rest after : List ℕ) (b : ℕ) (x : A) (more : List ℕ)
    (all : Result (List A × List ℕ) (Fault BinKind)) → behind_front front (up_to_end total element n rest) ≡ all
    → m + 1 ≡ n → rest ≡ b ∷ after → (b ≡ 0x84 → ⊥) → element rest ≡ Ok (x, more) → new ≡ front ++ x ∷ []
    → behind_front new (up_to_end total element m more) ≡ all
element_step total element n m front new rest after b x more all i e r t h is =
    let here = subst (λ (y : List ℕ). element y ≡ Ok (x, more)) r h in
    elements_step (λ b. b) 0x84 (no_tag total) element n m front new rest after b x more all i e r t here is

none_left : (xs : List ℕ) → length xs ≡ 0 → xs ≡ []
none_left [] e = refl
none_left (x ∷ xs) e = absurd (omega arith)

module _ {A : Type 0} (total : ℕ) (element : List ℕ → Result (A × List ℕ) (Fault BinKind)) (n : ℕ) (front : List A)
    (rest : List ℕ) (all : Result (List A × List ℕ) (Fault BinKind))
    (so_far : behind_front front (up_to_end total element n rest) ≡ all) where
  -- no bytes are left
  pub elements_over : length rest ≡ 0 → all ≡ Err (no_tag total)
  elements_over e =
      sym so_far ∙ ap (λ (x : Result (List A × List ℕ) (Fault BinKind)). behind_front front x)
      (elements_none (λ b. b) 0x84 (no_tag total) element n rest (none_left rest e))

  -- the end was read
  pub elements_ended : (after : List ℕ) (b : ℕ) → 0 < n → rest ≡ b ∷ after → b ≡ 0x84 → all ≡ Ok (front, after)
  elements_ended after b some r t =
      sym so_far ∙ ap (λ (x : Result (List A × List ℕ) (Fault BinKind)). behind_front front x) (ended n some)
      ∙ ap (λ (ys : List A). done {E = Fault BinKind} (ys, after)) (append-nil front)
    where
      ended : (m : ℕ) → 0 < m → up_to_end total element m rest ≡ Ok ([], after)
      ended zero l = absurd (omega arith)
      ended (suc k) l = elements_end (λ b. b) 0x84 (no_tag total) element k rest after b r t

  -- an element isn't there
  pub elements_failed : (after : List ℕ) (b : ℕ) (f : Fault BinKind) → 0 < n → rest ≡ b ∷ after → (b ≡ 0x84 → ⊥)
      → element rest ≡ Err f → all ≡ Err f
  elements_failed after b f some r t h =
      sym so_far ∙ ap (λ (x : Result (List A × List ℕ) (Fault BinKind)). behind_front front x) (failed n some)
    where
      failed : (m : ℕ) → 0 < m → up_to_end total element m rest ≡ Err f
      failed zero l = absurd (omega arith)
      failed (suc k) l =
          elements_fail (λ b. b) 0x84 (no_tag total) element k rest after b f r t
          (subst (λ (y : List ℕ). element y ≡ Err f) r h)

-- a key and its value were
pub entry_read : (inner : Inner) (rest middle more : List ℕ) (k v : Plain) → inner rest ≡ Ok (k, middle)
    → inner middle ≡ Ok (v, more) → entry_at inner rest ≡ Ok ((k, v), more)
entry_read inner rest middle more k v h g = rw (h, g)

pub entry_fails_key : (inner : Inner) (rest : List ℕ) (f : Fault BinKind) → inner rest ≡ Err f → entry_at inner rest
    ≡ Err f
entry_fails_key inner rest f h = rw h

pub entry_fails_value : (inner : Inner) (rest middle : List ℕ) (k : Plain) (f : Fault BinKind) → inner rest
    ≡ Ok (k, middle)
    → inner middle ≡ Err f → entry_at inner rest ≡ Err f
entry_fails_value inner rest middle k f h g = rw (h, g)

pub entry_appended : (entries new : List Entry) (e : Entry) → new ≡ entries ++ e ∷ []
    → map key_and_value new ≡ map key_and_value entries ++ (e.key, e.value) ∷ []
entry_appended entries new e is =
    ap (λ (x : List Entry). map key_and_value x) is ∙ map-append key_and_value entries (e ∷ [])
