-- Lists in order, by an order that tells all apart.
use Rattle.std.proofs.Common.{◌≡◌, ℕ, suc, ◌+◌, ◌<◌, Bool, true, false, cond, List, [], ◌∷◌, length, get_or, map, refl}
use Rattle.std.proofs.Common.{sym, ap, ◌∙◌, subst, arith}
use Rattle.std.specs.declared.cmp.Ordering.{Ordering}
use Rattle.std.specs.declared.cmp.Ordering.TheVariants.{Less, Equal, Greater}
use Rattle.std.specs.Ordering.{is_lt, is_eq, ordering_reverse}
use Rattle.std.specs.Cmp.{IsTotalOrder}
use Rattle.std.specs.List.{sum_by, AllByRecursion}
use Rattle.std.specs.List.Sorted.{IsPermutation, IsSorted}
use Rattle.std.proofs.lemmas.List.Sorted.{IsPermutation-refl, IsPermutation-trans, IsPermutation-swap}
use Rattle.std.proofs.lemmas.List.Sorted.{IsPermutation-cons, sum_by-IsPermutation}
use Rattle.std.proofs.lemmas.List.{length-map, get_or-map}
use Rattle.std.proofs.lemmas.List.Sums.{sum_by-cons}
use Rattle.std.proofs.lemmas.List.Sorted.{IsPermutation-map}
use Rattle.pv_canon.specs.Canonical.{insert_by, sorted_by}

-- what is sorted by what f sees
seen_sorted : {V A : Type 0} (f : V → A) (R : A → A → Ordering) (xs : List V) → IsSorted (λ x y. R (f x) (f y)) xs
    → IsSorted R (map f xs)
seen_sorted f R [] s k d l m = absurd (omega arith)
seen_sorted f R (x ∷ xs) s k d l m =
    let n : k + 1 < length (x ∷ xs) = rw length-map at m in
    rw (get_or-map f (x ∷ xs) (k + 1) x d n, get_or-map f (x ∷ xs) k x d (omega arith)) (s k x (omega arith) n)

module _ {A : Type 0} (R : A → A → Ordering) where
  -- ---- nothing is lost

  insert_moves_cases : (x y : A) (ys : List A) (b : Bool) → IsPermutation (x ∷ ys) (insert_by R x ys)
      → IsPermutation (x ∷ y ∷ ys) (cond b (y ∷ insert_by R x ys) (x ∷ y ∷ ys))
  insert_moves_cases x y ys true h =
      IsPermutation-trans (x ∷ y ∷ ys) (y ∷ x ∷ ys) (y ∷ insert_by R x ys)
      (IsPermutation-swap (x ∷ y ∷ ys) (y ∷ x ∷ ys) 0 1 (omega arith) (omega arith) refl)
      (IsPermutation-cons y (x ∷ ys) (insert_by R x ys) h)
  insert_moves_cases x y ys false h = IsPermutation-refl (x ∷ y ∷ ys)

  insert_moves : (x : A) (ys : List A) → IsPermutation (x ∷ ys) (insert_by R x ys)
  insert_moves x [] = IsPermutation-refl (x ∷ [])
  insert_moves x (y ∷ ys) = insert_moves_cases x y ys (is_lt (R y x)) (insert_moves x ys)

  pub sorted_moves : (xs : List A) → IsPermutation xs (sorted_by R xs)
  sorted_moves [] = IsPermutation-refl []
  sorted_moves (x ∷ xs) = IsPermutation-trans (x ∷ xs) (x ∷ sorted_by R xs) (insert_by R x (sorted_by R xs))
      (IsPermutation-cons x xs (sorted_by R xs) (sorted_moves xs)) (insert_moves x (sorted_by R xs))

  -- ---- the order

  -- x comes first: nothing comes before it
  abbrev IsFirst : A → List A → Type 0
  IsFirst x ys = AllByRecursion (λ y. is_lt (R y x) ≡ false) ys

  abbrev pub Rises : List A → Type 0
  Rises [] = Unit {0}
  Rises (x ∷ xs) = IsFirst x xs × Rises xs

module _ {A : Type 0} (R : A → A → Ordering) (total : IsTotalOrder R) (same : (x y : A) → R x y ≡ Equal → x ≡ y) where
  -- what is not before x and what is not before that
  after_cases : (x y z : A) (r s : Ordering) → R y x ≡ r → R z y ≡ s → is_lt r ≡ false → is_lt s ≡ false → is_lt (R z x)
      ≡ false
  after_cases x y z Less s d e p q = cc
  after_cases x y z Equal Less d e p q = cc
  after_cases x y z Equal Equal d e p q = rw (← same y x d, e)
  after_cases x y z Equal Greater d e p q = rw (← same y x d, e)
  after_cases x y z Greater Less d e p q = cc
  after_cases x y z Greater Equal d e p q = rw (same z y e, d)
  after_cases x y z Greater Greater d e p q =
      rw (total.antisymm z x, total.trans x y z (rw (total.antisymm x y, d)) (rw (total.antisymm y z, e)))

  after : (x y z : A) → is_lt (R y x) ≡ false → is_lt (R z y) ≡ false → is_lt (R z x) ≡ false
  after x y z p q = after_cases x y z (R y x) (R z y) refl refl p q

  first_chain : (x y : A) (zs : List A) → is_lt (R y x) ≡ false → IsFirst R y zs → IsFirst R x zs
  first_chain x y [] p a = tt
  first_chain x y (z ∷ zs) p a = (after x y z p a.0, first_chain x y zs p a.1)

  not_both : (r s : Ordering) → r ≡ ordering_reverse s → is_lt s ≡ true → is_lt r ≡ false
  not_both r Less e p = rw e
  not_both r Equal e p = cc
  not_both r Greater e p = cc

  first_cases : (w x y : A) (ys : List A) (b : Bool) → is_lt (R x w) ≡ false → IsFirst R w (y ∷ ys)
      → IsFirst R w (insert_by R x ys) → IsFirst R w (cond b (y ∷ insert_by R x ys) (x ∷ y ∷ ys))
  first_cases w x y ys true p a h = (a.0, h)
  first_cases w x y ys false p a h = (p, a)

  first_more : (w x : A) (ys : List A) → is_lt (R x w) ≡ false → IsFirst R w ys → IsFirst R w (insert_by R x ys)
  first_more w x [] p a = (p, tt)
  first_more w x (y ∷ ys) p a = first_cases w x y ys (is_lt (R y x)) p a (first_more w x ys p a.1)

  insert_rises_cases : (x y : A) (ys : List A) (b : Bool) → is_lt (R y x) ≡ b → Rises R (y ∷ ys)
      → Rises R (insert_by R x ys) → Rises R (cond b (y ∷ insert_by R x ys) (x ∷ y ∷ ys))
  insert_rises_cases x y ys true e s h = (first_more y x ys (not_both (R x y) (R y x) (total.antisymm x y) e) s.0, h)
  insert_rises_cases x y ys false e s h = ((e, first_chain x y ys e s.0), s)

  insert_rises : (x : A) (ys : List A) → Rises R ys → Rises R (insert_by R x ys)
  insert_rises x [] s = (tt, tt)
  insert_rises x (y ∷ ys) s = insert_rises_cases x y ys (is_lt (R y x)) refl s (insert_rises x ys s.1)

  pub sorted_rises : (xs : List A) → Rises R (sorted_by R xs)
  sorted_rises [] = tt
  sorted_rises (x ∷ xs) = insert_rises x (sorted_by R xs) (sorted_rises xs)

  -- ---- by index

  first_from_all : (x : A) (ys : List A) → ((k : ℕ) → k < length ys → is_lt (R (get_or ys k x) x) ≡ false)
      → IsFirst R x ys
  first_from_all x [] h = tt
  first_from_all x (y ∷ ys) h = (h 0 (omega arith), first_from_all x ys (λ k l. h (suc k) (omega arith)))

  rises_head : (x : A) (ys : List A) → IsSorted R (x ∷ ys) → Rises R ys → IsFirst R x ys
  rises_head x [] s r = tt
  rises_head x (y ∷ ys) s r =
      let p : is_lt (R y x) ≡ false = s 0 x (omega arith) (omega arith) in
      (p, first_chain x y ys p r.0)

  later : (k : ℕ) → suc k + 1 ≡ suc (k + 1)
  later k = omega arith

  pub rises_from_sorted : (xs : List A) → IsSorted R xs → Rises R xs
  rises_from_sorted [] s = tt
  rises_from_sorted (x ∷ xs) s =
      let r = rises_from_sorted xs
      (λ k d l m. subst (λ j. is_lt (R (get_or (x ∷ xs) j d) (get_or xs k d)) ≡ false) (later k)
      (s (suc k) d (omega arith) (omega arith))) in
      (rises_head x xs s r, r)

  -- ---- one list alone has these elements and rises

  -- how often x stands in a list
  abbrev at : A → A → ℕ
  at x y = cond (is_eq (R x y)) 1 0

  abbrev Same : List A → List A → Type 0
  Same xs ys = (f : A → ℕ) → sum_by f xs ≡ sum_by f ys

  absent_one : (x y z : A) (r : Ordering) → R x z ≡ r → R x y ≡ Less → is_lt (R z y) ≡ false → is_eq r ≡ false
  absent_one x y z Less e d p = refl
  absent_one x y z Equal e d p = absurd (both (is_lt (R z y)) p (rw (← same x z e, d)))
    where
      both : (b : Bool) → b ≡ false → b ≡ true → ⊥
      both true p q = cc
      both false p q = cc
  absent_one x y z Greater e d p = refl

  absent : (x y : A) (zs : List A) → R x y ≡ Less → IsFirst R y zs → sum_by (at x) zs ≡ 0
  absent x y [] d a = refl
  absent x y (z ∷ zs) d a = rw (absent_one x y z (R x z) refl d a.0, absent x y zs d a.1)

  own : (x : A) → is_eq (R x x) ≡ true
  own x = by (R x x) (total.antisymm x x)
    where
      by : (r : Ordering) → r ≡ ordering_reverse r → is_eq r ≡ true
      by Less e = cc
      by Equal e = refl
      by Greater e = cc

  -- a list whose first element comes before all of the other list has not the same elements
  clash : (x y : A) (xs ys : List A) → R x y ≡ Less → IsFirst R y ys → Same (x ∷ xs) (y ∷ ys) → ⊥
  clash x y xs ys d a h =
      let none : at x y + sum_by (at x) ys ≡ 0 = rw (d, absent x y ys d a) in
      let some : at x x ≡ 1 = rw (own x) in
      let equal : at x x + sum_by (at x) xs ≡ at x y + sum_by (at x) ys =
      sym (sum_by-cons (at x) x xs) ∙ h (at x) ∙ sum_by-cons (at x) y ys in
      omega (arith, equal, none, some)

  heads_same : (x y : A) (xs ys : List A) → IsFirst R x xs → IsFirst R y ys → Same (x ∷ xs) (y ∷ ys) → x ≡ y
  heads_same x y xs ys a b h = by (R x y) refl
    where
      by : (r : Ordering) → R x y ≡ r → x ≡ y
      by Less e = absurd (clash x y xs ys e b h)
      by Equal e = same x y e
      by Greater e = absurd (clash y x ys xs (rw (total.antisymm y x, e)) a (λ f. sym (h f)))

  tails : (f : A → ℕ) (m n : ℕ) (xs ys : List A) → m ≡ n → m + sum_by f xs ≡ n + sum_by f ys → sum_by f xs ≡ sum_by f ys
  tails f m n xs ys e h = omega (arith, e, h)

  rises_one : (xs ys : List A) → Rises R xs → Rises R ys → Same xs ys → xs ≡ ys
  rises_one [] [] r s h = refl
  rises_one [] (y ∷ ys) r s h =
      let equal : 0 ≡ 1 + sum_by (λ z. 1) ys = h (λ z. 1) ∙ sum_by-cons (λ z. 1) y ys in
      absurd (omega (arith, equal))
  rises_one (x ∷ xs) [] r s h =
      let equal : 1 + sum_by (λ z. 1) xs ≡ 0 = sym (sum_by-cons (λ z. 1) x xs) ∙ h (λ z. 1) in
      absurd (omega (arith, equal))
  rises_one (x ∷ xs) (y ∷ ys) r s h =
      let e = heads_same x y xs ys r.0 s.0 h in
      let more = rises_one xs ys r.1 s.1
      (λ f. tails f (f x) (f y) xs ys (ap f e) (sym (sum_by-cons f x xs) ∙ h f ∙ sum_by-cons f y ys)) in
      λ i. e i ∷ more i

  -- what a sort gives is the list in order
  pub sorted_is : (xs ys : List A) → IsPermutation xs ys → IsSorted R ys → ys ≡ sorted_by R xs
  sorted_is xs ys moved sorted =
      rises_one ys (sorted_by R xs) (rises_from_sorted ys sorted) (sorted_rises xs)
      (λ f. sum_by-IsPermutation f xs ys moved
      ∙ sym (sum_by-IsPermutation f xs (sorted_by R xs) (sorted_moves R xs)))

  -- the same, where f sees the elements
  pub sorted_seen : {V : Type 0} (f : V → A) (xs ys : List V) → IsPermutation xs ys → IsSorted (λ x y. R (f x) (f y)) ys
      → map f ys ≡ sorted_by R (map f xs)
  sorted_seen f xs ys moved sorted =
      sorted_is (map f xs) (map f ys) (IsPermutation-map f xs ys moved) (seen_sorted f R ys sorted)
