-- Lists put in order by an order that tells all apart.
use Rattle.std.proofs.Common.{◌≡◌, Bool, true, false, ◌||◌, List, [], ◌∷◌, refl, sym, ap, ◌∙◌, arith}
use Rattle.std.specs.declared.cmp.Ordering.{Ordering}
use Rattle.std.specs.declared.cmp.Ordering.TheVariants.{Less, Equal, Greater}
use Rattle.std.specs.Ordering.{is_eq, eq_by_cmp, ordering_reverse, match_ordering}
use Rattle.std.specs.Cmp.{IsTotalOrder}
use Rattle.std.specs.List.{list_any, IsDistinct, AllByRecursion}
use Rattle.std.specs.List.Sorted.{IsPermutation, IsStrictlySortedBy}
use Rattle.std.specs.BTreeSet.{insert_key}
use Rattle.std.proofs.lemmas.List.Elements.{All-from_recursion}
use Rattle.std.proofs.lemmas.List.Folds.{list_any_none}
use Rattle.std.proofs.lemmas.List.Sorted.{IsPermutation-refl, IsPermutation-trans, IsPermutation-swap}
use Rattle.std.proofs.lemmas.List.Sorted.{IsPermutation-cons, list_any-IsPermutation}
use Rattle.std.proofs.lemmas.Map.Lookups.{btree_set_from_contains}
use mathlib.Core.Bool.{true≢false}
use Rattle.pv_value.specs.Sets.{ascending_by}

or_turn : (a b c : Bool) → (a || (b || c)) ≡ (b || (a || c))
or_turn true true c = refl
or_turn true false c = refl
or_turn false b c = refl

or_twice : (a c : Bool) → (a || c) ≡ (a || (a || c))
or_twice true c = refl
or_twice false c = refl

pub or_false : (a b : Bool) → (a || b) ≡ false → (a ≡ false) × (b ≡ false)
or_false true b e = cc
or_false false b e = (refl, e)

module _ {A : Type 0} (R : A → A → Ordering) (total : IsTotalOrder R) (same : (x y : A) → R x y ≡ Equal → x ≡ y) where
  -- ---- the order

  below_cases : (k x : A) (d : R x k ≡ Less) (y : A) (ys : List A) (r : Ordering) → R x y ≡ Less
      → AllByRecursion (λ z. R x z ≡ Less) ys → AllByRecursion (λ z. R x z ≡ Less) (insert_key R ys k)
      → AllByRecursion (λ z. R x z ≡ Less) (match_ordering r (k ∷ y ∷ ys) (y ∷ ys) (y ∷ insert_key R ys k))
  below_cases k x d y ys Less e a b = (d, (e, a))
  below_cases k x d y ys Equal e a b = (e, a)
  below_cases k x d y ys Greater e a b = (e, b)

  below_more : (k x : A) (d : R x k ≡ Less) (ks : List A) → AllByRecursion (λ y. R x y ≡ Less) ks
      → AllByRecursion (λ y. R x y ≡ Less) (insert_key R ks k)
  below_more k x d [] a = (d, tt)
  below_more k x d (y ∷ ys) a = below_cases k x d y ys (R k y) a.0 a.1 (below_more k x d ys a.1)

  below_chain : (x y : A) (ks : List A) → R x y ≡ Less → AllByRecursion (λ z. R y z ≡ Less) ks
      → AllByRecursion (λ z. R x z ≡ Less) ks
  below_chain x y [] d a = tt
  below_chain x y (z ∷ zs) d a = (total.trans x y z d a.0, below_chain x y zs d a.1)

  insert_cases : (k x : A) (xs : List A) (r : Ordering) → R k x ≡ r → IsStrictlySortedBy R (x ∷ xs)
      → IsStrictlySortedBy R (insert_key R xs k)
      → IsStrictlySortedBy R (match_ordering r (k ∷ x ∷ xs) (x ∷ xs) (x ∷ insert_key R xs k))
  unfolding IsStrictlySortedBy
  insert_cases k x xs Less e s t = ((e, below_chain k x xs e s.0), s)
  insert_cases k x xs Equal e s t = s
  insert_cases k x xs Greater e s t = (below_more k x (total.antisymm x k ∙ ap ordering_reverse e) xs s.0, t)

  insert_sorted : (ks : List A) (k : A) → IsStrictlySortedBy R ks → IsStrictlySortedBy R (insert_key R ks k)
  unfolding IsStrictlySortedBy
  insert_sorted [] k s = (tt, tt)
  insert_sorted (x ∷ xs) k s = insert_cases k x xs (R k x) refl s (insert_sorted xs k s.1)

  pub ascending_sorted : (xs : List A) → IsStrictlySortedBy R (ascending_by R xs)
  unfolding IsStrictlySortedBy
  ascending_sorted [] = tt
  ascending_sorted (x ∷ xs) = insert_sorted (ascending_by R xs) x (ascending_sorted xs)

  -- ---- what stands in it

  any_cases : (p : A → Bool) (k x : A) (xs : List A) (r : Ordering) → R k x ≡ r
      → list_any p (insert_key R xs k) ≡ (p k || list_any p xs)
      → list_any p (match_ordering r (k ∷ x ∷ xs) (x ∷ xs) (x ∷ insert_key R xs k)) ≡ (p k || (p x || list_any p xs))
  any_cases p k x xs Less e h = refl
  any_cases p k x xs Equal e h = rw (same k x e) (or_twice (p x) (list_any p xs))
  any_cases p k x xs Greater e h = rw h (or_turn (p x) (p k) (list_any p xs))

  insert_any : (p : A → Bool) (ks : List A) (k : A) → list_any p (insert_key R ks k) ≡ (p k || list_any p ks)
  insert_any p [] k = refl
  insert_any p (x ∷ xs) k = any_cases p k x xs (R k x) refl (insert_any p xs k)

  ascending_any : (p : A → Bool) (xs : List A) → list_any p (ascending_by R xs) ≡ list_any p xs
  ascending_any p [] = refl
  ascending_any p (x ∷ xs) = insert_any p (ascending_by R xs) x ∙ ap (λ b. p x || b) (ascending_any p xs)

  -- the list in order is the only one that ascends
  pub ascending_is : (xs ys : List A) → IsPermutation xs ys → IsStrictlySortedBy R ys → ascending_by R xs ≡ ys
  ascending_is xs ys moved sorted =
      btree_set_from_contains total (record { keys = ascending_by R xs }) (record { keys = ys }) (ascending_sorted xs)
      sorted
      (λ q. ascending_any (eq_by_cmp R q) xs ∙ list_any-IsPermutation (eq_by_cmp R q) xs ys moved) same

  -- ---- nothing is lost, where no two are equal

  insert_moves_cases : (k x : A) (xs : List A) (r : Ordering) → R k x ≡ r → (is_eq (R k x) ≡ false)
      → IsPermutation (k ∷ xs) (insert_key R xs k)
      → IsPermutation (k ∷ x ∷ xs) (match_ordering r (k ∷ x ∷ xs) (x ∷ xs) (x ∷ insert_key R xs k))
  insert_moves_cases k x xs Less e n h = IsPermutation-refl (k ∷ x ∷ xs)
  insert_moves_cases k x xs Equal e n h = absurd (true≢false (sym (ap is_eq e) ∙ n))
  insert_moves_cases k x xs Greater e n h =
      IsPermutation-trans (k ∷ x ∷ xs) (x ∷ k ∷ xs) (x ∷ insert_key R xs k)
      (IsPermutation-swap (k ∷ x ∷ xs) (x ∷ k ∷ xs) 0 1 (omega arith) (omega arith) refl)
      (IsPermutation-cons x (k ∷ xs) (insert_key R xs k) h)

  insert_moves : (ks : List A) (k : A) → list_any (eq_by_cmp R k) ks ≡ false
      → IsPermutation (k ∷ ks) (insert_key R ks k)
  insert_moves [] k e = IsPermutation-refl (k ∷ [])
  insert_moves (x ∷ xs) k e =
      let h = or_false (is_eq (R k x)) (list_any (eq_by_cmp R k) xs) e in
      insert_moves_cases k x xs (R k x) refl h.0 (insert_moves xs k h.1)

  pub ascending_moves : (xs : List A) → IsDistinct (eq_by_cmp R) xs → IsPermutation xs (ascending_by R xs)
  unfolding IsDistinct
  ascending_moves [] d = IsPermutation-refl []
  ascending_moves (x ∷ xs) d =
      let none = list_any_none (eq_by_cmp R x) xs (All-from_recursion (λ y. eq_by_cmp R x y ≡ false) xs d.0) in
      IsPermutation-trans (x ∷ xs) (x ∷ ascending_by R xs) (insert_key R (ascending_by R xs) x)
      (IsPermutation-cons x xs (ascending_by R xs) (ascending_moves xs d.1))
      (insert_moves (ascending_by R xs) x (ascending_any (eq_by_cmp R x) xs ∙ none))
