-- How many elements of a list pass a test, and how many entries of a map do after a change.
use Rattle.std.proofs.Common.{◌≡◌, ℕ, ◌+◌, List, [], ◌∷◌, ◌++◌, Bool, true, false, cond, Option, None, Some, refl, ap}
use Rattle.std.proofs.Common.{arith}
use Rattle.std.specs.Prelude.{count_by}
use Rattle.std.specs.Ordering.{nat_cmp, is_eq, match_ordering}
use Rattle.std.specs.declared.cmp.Ordering.{Ordering}
use Rattle.std.specs.declared.cmp.Ordering.TheVariants.{Less, Equal, Greater}
use Rattle.std.specs.Map.{lookup, remove_entry}
use Rattle.std.specs.BTreeMap.{insert_entry, is_at}
use Rattle.std.proofs.lemmas.List.Recursion.{is_count_by}

abbrev pub one_if : Bool → ℕ
one_if true = 1
one_if false = 0

-- as `count_by`, but from the back
abbrev pub number : {X : Type 0} → (X → Bool) → List X → ℕ
number test [] = 0
number test (x ∷ xs) = one_if (test x) + number test xs

count_step : (b : Bool) (n : ℕ) → one_if b + n ≡ cond b (1 + n) n
count_step true n = refl
count_step false n = omega arith

pub is_number : {X : Type 0} (test : X → Bool) (xs : List X) → number test xs ≡ count_by test xs
is_number test xs =
    is_count_by (number test) test refl (λ x ys. count_step (test x) (number test ys)) xs

pub number-append : {X : Type 0} (test : X → Bool) (xs ys : List X)
    → number test (xs ++ ys) ≡ number test xs + number test ys
number-append test [] ys = omega arith
number-append test (x ∷ xs) ys =
    let e : number test (xs ++ ys) ≡ number test xs + number test ys = number-append test xs ys in omega arith

pub number-same : {X : Type 0} (p q : X → Bool) (xs : List X) → ((x : X) → p x ≡ q x) → number p xs ≡ number q xs
number-same p q [] same = refl
number-same p q (x ∷ xs) same =
    let e : number p xs ≡ number q xs = number-same p q xs same in
    let f : one_if (p x) ≡ one_if (q x) = ap one_if (same x) in
    omega arith

not_at : (b : Bool) (n : ℕ) → one_if b + n ≡ 0 → b ≡ false
not_at true n none = absurd (omega arith)
not_at false n none = refl

-- ---- entries by their keys

module _ {V : Type 0} where
  abbrev pub at_key : ℕ → ℕ × V → Bool
  at_key k e = is_at (nat_cmp k) e.0

  -- an entry that wasn't there
  inserted : (q : ℕ × V → Bool) (k : ℕ) (v : V) (e : ℕ × V) (es more : List (ℕ × V)) (o : Ordering) (found : Option V)
      → cond (is_eq o) (Some e.1) found ≡ None → (found ≡ None → number q more ≡ one_if (q (k, v)) + number q es)
      → number q (match_ordering o ((k, v) ∷ e ∷ es) ((e.0, v) ∷ es) (e ∷ more))
      ≡ one_if (q (k, v)) + (one_if (q e) + number q es)
  inserted q k v e es more Less found none later = refl
  inserted q k v e es more Equal found none later = absurd cc
  inserted q k v e es more Greater found none later =
      let l : number q more ≡ one_if (q (k, v)) + number q es = later none in omega arith

  pub number-insert : (q : ℕ × V → Bool) (es : List (ℕ × V)) (k : ℕ) (v : V) → lookup (is_at (nat_cmp k)) es ≡ None
      → number q (insert_entry nat_cmp es k v) ≡ one_if (q (k, v)) + number q es
  number-insert q [] k v none = refl
  number-insert q (e ∷ es) k v none =
      inserted q k v e es (insert_entry nat_cmp es k v) (nat_cmp k e.0) (lookup (is_at (nat_cmp k)) es) none
      (λ later. number-insert q es k v later)

  -- no entry is at a key that isn't found
  none_here : (b : Bool) (x : V) (found : Option V) (n : ℕ) → cond b (Some x) found ≡ None → (found ≡ None → n ≡ 0)
      → one_if b + n ≡ 0
  none_here true x found n none later = absurd cc
  none_here false x found n none later = let l : n ≡ 0 = later none in omega arith

  pub number-absent : (k : ℕ) (es : List (ℕ × V)) → lookup (is_at (nat_cmp k)) es ≡ None → number (at_key k) es ≡ 0
  number-absent k [] none = refl
  number-absent k (e ∷ es) none =
      none_here (is_at (nat_cmp k) e.0) e.1 (lookup (is_at (nat_cmp k)) es) (number (at_key k) es) none
      (λ later. number-absent k es later)

  -- the entry that is taken out
  pub record IsTakenOut (k : ℕ) (s : V) (old new : List (ℕ × V)) : Type 0 where
    pub key : ℕ
    pub is : is_at (nat_cmp k) key ≡ true
    pub counted : (q : ℕ × V → Bool) → number q old ≡ one_if (q (key, s)) + number q new

  taken_here : (k : ℕ) (s : V) (b : Bool) (e : ℕ × V) (es more : List (ℕ × V)) (found : Option V)
      → is_at (nat_cmp k) e.0 ≡ b → cond b (Some e.1) found ≡ Some s → (found ≡ Some s → IsTakenOut k s es more)
      → IsTakenOut k s (e ∷ es) (cond b es (e ∷ more))
  taken_here k s true e es more found at is later =
      let same : e.1 ≡ s = cc in
      record { key = e.0; is = at; counted = λ q. ap (λ w. one_if (q (e.0, w)) + number q es) same }
  taken_here k s false e es more found at is later =
      let t : IsTakenOut k s es more = later is in
      record {
        key = t.key;
        is = t.is;
        counted = λ q. let l : number q es ≡ one_if (q (t.key, s)) + number q more = t.counted q in omega arith;
      }

  pub taken_out : (k : ℕ) (s : V) (es : List (ℕ × V)) → lookup (is_at (nat_cmp k)) es ≡ Some s
      → IsTakenOut k s es (remove_entry (is_at (nat_cmp k)) es)
  taken_out k s [] is = absurd cc
  taken_out k s (e ∷ es) is =
      taken_here k s (is_at (nat_cmp k) e.0) e es (remove_entry (is_at (nat_cmp k)) es) (lookup (is_at (nat_cmp k)) es)
      refl is (λ later. taken_out k s es later)

  -- two tests that differ at one key alone
  pub number-apart : (k : ℕ) (p q : ℕ × V → Bool) (es : List (ℕ × V)) → number (at_key k) es ≡ 0
      → ((e : ℕ × V) → at_key k e ≡ false → p e ≡ q e) → number p es ≡ number q es
  number-apart k p q [] none same = refl
  number-apart k p q (e ∷ es) none same =
      let rest : number (at_key k) es ≡ 0 = omega arith in
      let l : number p es ≡ number q es = number-apart k p q es rest same in
      let f : one_if (p e) ≡ one_if (q e) =
      ap one_if (same e (not_at (at_key k e) (number (at_key k) es) none)) in
      omega arith
