-- Runs of characters that pass a test.
use Rattle.std.proofs.Common.{◌≡◌, ℕ, suc, ◌<◌, Bool, true, false, cond, not, List, [], ◌∷◌, ◌++◌, length, get_or, take}
use Rattle.std.proofs.Common.{drop, drop-cons, refl, sym, ap, ◌∙◌, append_assoc}
use Rattle.std.proofs.Math.Seq.{take-suc}
use Rattle.std.proofs.lemmas.List.{append-nil}
use Rattle.std.proofs.lemmas.Bool.{not-true, and_parts, and_from}
use Rattle.pv_lex.specs.Characters.{all_of, run, ends_run}

module _ (test : ℕ → Bool) where
  -- what stands before a run, and the run
  abbrev pub behind : List ℕ → List ℕ × List ℕ → List ℕ × List ℕ
  behind front x = (front ++ x.0, x.1)

  pub run_first : (b : ℕ) (bs : List ℕ) → test b ≡ true → run test (b ∷ bs) ≡ behind (b ∷ []) (run test bs)
  run_first b bs e = rw e

  pub run_none : (b : ℕ) (bs : List ℕ) → test b ≡ false → run test (b ∷ bs) ≡ ([], b ∷ bs)
  run_none b bs e = rw e

  pub run_is : (s r : List ℕ) → all_of test s ≡ true → ends_run test r ≡ true → run test (s ++ r) ≡ (s, r)
  run_is [] [] e f = refl
  run_is [] (b ∷ bs) e f = run_none b bs (not-true (test b) f)
  run_is (b ∷ s) r e f =
      let h = and_parts (test b) (all_of test s) e in
      run_first b (s ++ r) h.0 ∙ ap (behind (b ∷ [])) (run_is s r h.1 f)

  -- the parts of a run
  abbrev pub Parts : List ℕ → List ℕ × List ℕ → Type 0
  Parts bytes x = (bytes ≡ x.0 ++ x.1) × (all_of test x.0 ≡ true) × (ends_run test x.1 ≡ true)

  pub run_parts : (bytes : List ℕ) → Parts bytes (run test bytes)
  run_parts [] = (refl, refl, refl)
  run_parts (b ∷ bs) = by (test b) refl (run_parts bs)
    where
      by : (t : Bool) → test b ≡ t → Parts bs (run test bs)
          → Parts (b ∷ bs) (cond t (b ∷ (run test bs).0, (run test bs).1) ([], b ∷ bs))
      by true e h = (ap (λ x. b ∷ x) h.0, and_from (test b) (all_of test (run test bs).0) e h.1, h.2)
      by false e h = (refl, refl, ap not e)

  -- ---- by places

  abbrev pub from : List ℕ → ℕ → List ℕ × List ℕ
  from bytes i = behind (take i bytes) (run test (drop i bytes))

  pub one_more : (bytes : List ℕ) (i : ℕ) → i < length bytes → test (get_or bytes i 0) ≡ true → from bytes (suc i)
      ≡ from bytes i
  one_more bytes i l e =
      let b = get_or bytes i 0 in
      let rest = run test (drop (suc i) bytes) in
      ap (λ x. (x ++ rest.0, rest.1)) (take-suc bytes i 0 l)
      ∙ ap (λ x. (x, rest.1)) (append_assoc (take i bytes) (b ∷ []) rest.0)
      ∙ sym (ap (behind (take i bytes)) (ap (run test) (drop-cons bytes i 0 l) ∙ run_first b (drop (suc i) bytes) e))

  pub no_more : (bytes : List ℕ) (i : ℕ) → i < length bytes → test (get_or bytes i 0) ≡ false → from bytes i
      ≡ (take i bytes, drop i bytes)
  no_more bytes i l e =
      let b = get_or bytes i 0 in
      let none = ap (run test) (drop-cons bytes i 0 l) ∙ run_none b (drop (suc i) bytes) e in
      ap (behind (take i bytes)) none ∙ ap (λ x. (x, b ∷ drop (suc i) bytes)) (append-nil (take i bytes))
      ∙ ap (λ x. (take i bytes, x)) (sym (drop-cons bytes i 0 l))
