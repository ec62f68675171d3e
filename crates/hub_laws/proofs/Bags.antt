-- Lists as bags: what is put together of parts, and the parts of a list by a number.
use Rattle.std.proofs.Common.{◌≡◌, ℕ, List, [], ◌∷◌, ◌++◌, map, Bool, true, false, not, ◌&&◌, ◌||◌, ◌==◌, filter}
use Rattle.std.proofs.Common.{flat_map, refl, ap, sym, ◌∙◌, subst, arith, append_assoc, IsPermutation}
use Rattle.std.specs.List.{AllByRecursion, IsDistinct, list_any}
use Rattle.std.proofs.lemmas.Bool.Decides.{nat_tests}
use Rattle.std.proofs.lemmas.List.{map-append}
use Rattle.std.proofs.lemmas.List.Elements.{filter_agree}
use Rattle.std.proofs.lemmas.List.Sorted.{IsPermutation-refl, IsPermutation-append, IsPermutation-append_right}
use Rattle.std.proofs.lemmas.List.Sorted.{IsPermutation-trans, IsPermutation-filter_both}
use Rattle.std.proofs.lemmas.Map.Keys.{IsDistinct-head, IsDistinct-tail}
use Rattle.ac_table.specs.Lemmas.Lists.{all_weaker}

-- ---- put together of parts

pub map_flat : {X Y Z : Type 0} (h : Y → Z) (f : X → List Y) (xs : List X)
    → map h (flat_map f xs) ≡ flat_map (λ x. map h (f x)) xs
map_flat h f [] = refl
map_flat h f (x ∷ xs) = map-append h (f x) (flat_map f xs) ∙ ap (λ l. map h (f x) ++ l) (map_flat h f xs)

pub flat_alike : {X Y : Type 0} (f g : X → List Y) (xs : List X) → AllByRecursion (λ x. f x ≡ g x) xs
    → flat_map f xs ≡ flat_map g xs
flat_alike f g [] a = refl
flat_alike f g (x ∷ xs) a = λ i. a.0 i ++ flat_alike f g xs a.1 i

pub permutation_flat : {X Y : Type 0} (f g : X → List Y) (xs : List X)
    → AllByRecursion (λ x. IsPermutation (f x) (g x)) xs → IsPermutation (flat_map f xs) (flat_map g xs)
permutation_flat f g [] a = IsPermutation-refl []
permutation_flat f g (x ∷ xs) a =
    IsPermutation-append (f x) (g x) (flat_map f xs) (flat_map g xs) a.0 (permutation_flat f g xs a.1)

-- ---- filters

every : {X : Type 0} (xs : List X) → filter (λ x. true) xs ≡ xs
every [] = refl
every (x ∷ xs) = ap (λ l. x ∷ l) (every xs)

pub filter_alike : {X : Type 0} (p q : X → Bool) (xs : List X) → AllByRecursion (λ x. p x ≡ q x) xs
    → filter p xs ≡ filter q xs
filter_alike p q [] a = refl
filter_alike p q (x ∷ xs) a = rw (a.0, filter_alike p q xs a.1) refl

pub filter_filter : {X : Type 0} (p q : X → Bool) (xs : List X) → filter p (filter q xs) ≡ filter (λ x. q x && p x) xs
filter_filter p q [] = refl
filter_filter p q (x ∷ xs) = by (q x) refl (filter_filter p q xs)
  where
    by : (b : Bool) → q x ≡ b → filter p (filter q xs) ≡ filter (λ x. q x && p x) xs
        → filter p (filter q (x ∷ xs)) ≡ filter (λ x. q x && p x) (x ∷ xs)
    by true is rest = rw (is, rest) refl
    by false is rest = rw (is, rest) refl

-- ---- the parts by a number

module _ {X : Type 0} (n : X → ℕ) where
  other_number : (x : X) (d c : ℕ) → (d == c) ≡ false → (not (n x == d) && (n x == c)) ≡ (n x == c)
  other_number x d c other = grind (arith, nat_tests)

  both_not : (a b : Bool) → (not a && not b) ≡ not (a || b)
  both_not true b = refl
  both_not false b = refl

  -- those of each of some numbers, and those of none of these
  pub by_number : (ds : List ℕ) (xs : List X) → IsDistinct (λ c d. c == d) ds
      → IsPermutation xs
      (flat_map (λ d. filter (λ x. n x == d) xs) ds ++ filter (λ x. not (list_any (λ d. n x == d) ds)) xs)
  by_number [] xs s = subst (IsPermutation xs) (sym (every xs)) (IsPermutation-refl xs)
  by_number (d ∷ ds) xs s =
      let own = filter (λ x. n x == d) xs in
      let others = filter (λ x. not (n x == d)) xs in
      let rest : List X = filter (λ x. not (list_any (λ c. n x == c) (d ∷ ds))) xs in
      let parts : flat_map (λ c. filter (λ x. n x == c) others) ds ≡ flat_map (λ c. filter (λ x. n x == c) xs) ds =
      flat_alike _ _ ds (all_weaker _ _ (λ c other. filter_filter (λ x. n x == c) (λ x. not (n x == d)) xs
      ∙ filter_agree _ _ (λ x. other_number x d c other) xs) ds (IsDistinct-head _ d ds s)) in
      let none : filter (λ x. not (list_any (λ c. n x == c) ds)) others ≡ rest =
      filter_filter _ (λ x. not (n x == d)) xs ∙ filter_agree _ _ (λ x. both_not (n x == d) _) xs in
      IsPermutation-trans xs (own ++ others) _
      (IsPermutation-filter_both (λ x. n x == d) (λ x. not (n x == d)) (λ x. refl) xs)
      (subst (IsPermutation (own ++ others)) (sym (append_assoc own _ rest))
      (IsPermutation-append_right own others _
      (subst (IsPermutation others) (λ i. parts i ++ none i) (by_number ds others (IsDistinct-tail _ d ds s)))))
