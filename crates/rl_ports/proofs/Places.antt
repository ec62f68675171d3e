-- Where a reference stands among exports with one more or one less, and lists in which none stands twice.
use Rattle.std.proofs.Common.{◌≡◌, ℕ, List, [], ◌∷◌, ◌++◌, Bool, true, false, cond, Option, Some, None}
use Rattle.std.proofs.Common.{refl, ap, sym, ◌∙◌}
use Rattle.std.specs.Map.{lookup, remove_entry}
use Rattle.std.specs.Option.{option_or}
use Rattle.std.specs.Cmp.{eq_by_cmp_equiv}
use Rattle.pv_value.specs.Plain.{Plain}
use Rattle.pv_value.specs.Lemmas.OrderLaws.{order_total}
use Rattle.pv_words.specs.Parts.{same}
use Rattle.pv_words.specs.Lemmas.Same.{same_is, same_self}
use Rattle.rl_ports.specs.Ports.{place_of}
use Rattle.rl_ports.specs.Kept.{AreOnce}

-- the number n, where the test holds
abbrev pub where_it : Bool → ℕ → Option ℕ
where_it b n = cond b (Some n) None

-- the number n, where the test holds, or else that behind
abbrev pub first_or : Bool → ℕ → Option ℕ → Option ℕ
first_or b n o = cond b (Some n) o

first_or_later : (b c : Bool) (k n : ℕ) (o : Option ℕ)
    → first_or b k (option_or o (where_it c n)) ≡ option_or (first_or b k o) (where_it c n)
first_or_later true c k n o = refl
first_or_later false c k n o = refl

pub place-append : (q r : Plain) (n : ℕ) (xs : List (ℕ × Plain))
    → place_of q (xs ++ (n, r) ∷ []) ≡ option_or (place_of q xs) (where_it (same q r) n)
place-append q r n [] = refl
place-append q r n (x ∷ xs) = ap (first_or (same q x.1) x.0) (place-append q r n xs)
    ∙ first_or_later (same q x.1) (same q r) x.0 n (place_of q xs)

-- ---- no number

pub not_first : (b : Bool) (k : ℕ) (o : Option ℕ) → first_or b k o ≡ None → (b ≡ false) × (o ≡ None)
not_first true k o e = absurd cc
not_first false k o e = (refl, e)

both_not : (o : Option ℕ) (b : Bool) (n : ℕ) → o ≡ None → b ≡ false → option_or o (where_it b n) ≡ None
both_not o b n h k = rw (h, k) refl

pub same_turns : (q r : Plain) → same q r ≡ same r q
same_turns q r = (eq_by_cmp_equiv order_total).symm q r

-- ---- none twice

pub once_push : (r : Plain) (n : ℕ) (xs : List (ℕ × Plain)) → AreOnce xs → place_of r xs ≡ None
    → AreOnce (xs ++ (n, r) ∷ [])
once_push r n [] once new = (refl, tt)
once_push r n (x ∷ xs) once new =
    let h = not_first (same r x.1) x.0 (place_of r xs) new in
    let apart : same x.1 r ≡ false = same_turns x.1 r ∙ h.0 in (
      place-append x.1 r n xs ∙ both_not (place_of x.1 xs) (same x.1 r) n once.0 apart,
      once_push r n xs once.1 h.1,
    )

-- ---- one less

none_without : (q : Plain) (test : ℕ → Bool) (xs : List (ℕ × Plain)) → place_of q xs ≡ None
    → place_of q (remove_entry test xs) ≡ None
none_without q test [] none = refl
none_without q test (x ∷ xs) none = by (test x.0) (none_without q test xs parts.1)
  where
    parts : (same q x.1 ≡ false) × (place_of q xs ≡ None)
    parts = not_first (same q x.1) x.0 (place_of q xs) none

    by : (b : Bool) → place_of q (remove_entry test xs) ≡ None
        → place_of q (cond b xs (x ∷ remove_entry test xs)) ≡ None
    by true rest = parts.1
    by false rest = rw parts.0 rest

pub once_without : (test : ℕ → Bool) (xs : List (ℕ × Plain)) → AreOnce xs → AreOnce (remove_entry test xs)
once_without test [] once = tt
once_without test (x ∷ xs) once = by (test x.0) (once_without test xs once.1)
  where
    by : (b : Bool) → AreOnce (remove_entry test xs) → AreOnce (cond b xs (x ∷ remove_entry test xs))
    by true rest = once.1
    by false rest = (none_without x.1 test xs once.0, rest)

-- a reference that stands there has a number
there : (r : Plain) (test : ℕ → Bool) (xs : List (ℕ × Plain)) → lookup test xs ≡ Some r → place_of r xs ≡ None → ⊥
there r test [] is none = absurd cc
there r test (x ∷ xs) is none = by (test x.0) is (λ found. there r test xs found parts.1)
  where
    parts : (same r x.1 ≡ false) × (place_of r xs ≡ None)
    parts = not_first (same r x.1) x.0 (place_of r xs) none

    by : (b : Bool) → cond b (Some x.1) (lookup test xs) ≡ Some r → (lookup test xs ≡ Some r → ⊥) → ⊥
    by true here rest =
        let at : x.1 ≡ r = cc in
        let h : true ≡ false = sym (same_self r) ∙ ap (same r) (sym at) ∙ parts.0 in absurd cc
    by false found rest = rest found

pub place_without : (q r : Plain) (test : ℕ → Bool) (xs : List (ℕ × Plain)) → AreOnce xs → lookup test xs ≡ Some r
    → place_of q (remove_entry test xs) ≡ cond (same q r) None (place_of q xs)
place_without q r test [] once is = absurd cc
place_without q r test (x ∷ xs) once is = by (test x.0) is (place_without q r test xs once.1)
  where
    here : (b : Bool) → same q x.1 ≡ b → place_of q xs ≡ cond b None (first_or b x.0 (place_of q xs))
    here true same_q = ap (λ y. place_of y xs) (same_is q x.1 same_q) ∙ once.0
    here false other = refl

    later : (b c : Bool) → same q x.1 ≡ b → same q r ≡ c → lookup test xs ≡ Some r
        → place_of q (remove_entry test xs) ≡ cond c None (place_of q xs)
        → first_or b x.0 (place_of q (remove_entry test xs)) ≡ cond c None (first_or b x.0 (place_of q xs))
    later true true same_x same_r rest known =
        let at : x.1 ≡ r = sym (same_is q x.1 same_x) ∙ same_is q r same_r in
        absurd (there r test xs rest (ap (λ y. place_of y xs) (sym at) ∙ once.0))
    later true false same_x same_r rest known = refl
    later false c same_x same_r rest known = known

    by : (b : Bool) → cond b (Some x.1) (lookup test xs) ≡ Some r
        → (lookup test xs ≡ Some r → place_of q (remove_entry test xs) ≡ cond (same q r) None (place_of q xs))
        → place_of q (cond b xs (x ∷ remove_entry test xs)) ≡ cond (same q r) None (place_of q (x ∷ xs))
    by true found rest =
        let at : x.1 ≡ r = cc in
        here (same q x.1) refl
        ∙ ap (λ y. cond (same q y) None (first_or (same q x.1) x.0 (place_of q xs))) at
    by false found rest = later (same q x.1) (same q r) refl refl found (rest found)
