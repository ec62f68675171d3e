-- Lists in which nothing stands twice. Two of them with the same members are permutations of one another.
use Rattle.std.proofs.Common.{◌≡◌, List, [], ◌∷◌, ◌++◌, map, Bool, true, false, not, ◌||◌, filter, flat_map}
use Rattle.std.proofs.Common.{refl, ap, sym, ◌∙◌, subst, IsPermutation}
use Rattle.std.specs.Cmp.{IsEquivalence}
use Rattle.std.specs.List.{AllByRecursion, IsDistinct, list_any}
use Rattle.std.proofs.lemmas.List.Elements.{All-from_recursion, recursion_from_All}
use Rattle.std.proofs.lemmas.List.Folds.{list_any_none}
use Rattle.std.proofs.lemmas.List.Sorted.{IsPermutation-refl, IsPermutation-cons, IsPermutation-middle}
use Rattle.std.proofs.lemmas.List.Sorted.{IsPermutation-sym, IsPermutation-trans}
use Rattle.std.proofs.lemmas.Map.Keys.{IsDistinct-head, IsDistinct-tail, IsDistinct-cons}
use Rattle.std.proofs.lemmas.Map.Views.{All-from_any, any-filter_same}
use Rattle.ds_space.specs.Lemmas.Keys.{any_flat}
use Rattle.ac_table.specs.Lemmas.Lists.{all_filter, all_weaker}
use Rattle.ac_world.specs.Lemmas.Entries.{all_append}

-- ---- filters

-- where all pass, all are kept
pub filter_all : {X : Type 0} (p : X → Bool) (xs : List X) → AllByRecursion (λ x. p x ≡ true) xs → filter p xs ≡ xs
filter_all p [] a = refl
filter_all p (x ∷ xs) a = rw a.0 (ap (λ l. x ∷ l) (filter_all p xs a.1))

pub distinct_none : {X : Type 0} (e : X → X → Bool) → IsDistinct e []
unfolding IsDistinct
distinct_none e = tt

pub distinct_filter : {X : Type 0} (e : X → X → Bool) (p : X → Bool) (xs : List X) → IsDistinct e xs
    → IsDistinct e (filter p xs)
distinct_filter e p [] d = d
distinct_filter e p (x ∷ xs) d = by (p x) refl (distinct_filter e p xs (IsDistinct-tail e x xs d))
  where
    by : (b : Bool) → p x ≡ b → IsDistinct e (filter p xs) → IsDistinct e (filter p (x ∷ xs))
    by true is rest =
        rw is (IsDistinct-cons e x (filter p xs)
        (all_filter _ _ p (λ y passed other. other) xs (IsDistinct-head e x xs d)) rest)
    by false is rest = rw is rest

-- ---- parts

-- those that a function of a list tells apart
pub distinct_map : {X Y : Type 0} (d : X → X → Bool) (e : Y → Y → Bool) (f : X → Y)
    → ((x y : X) → d x y ≡ false → e (f x) (f y) ≡ false) → (xs : List X) → IsDistinct d xs → IsDistinct e (map f xs)
distinct_map d e f keeps [] s = distinct_none e
distinct_map d e f keeps (x ∷ xs) s =
    IsDistinct-cons e (f x) (map f xs) (each xs (IsDistinct-head d x xs s))
    (distinct_map d e f keeps xs (IsDistinct-tail d x xs s))
  where
    each : (ys : List _) → AllByRecursion (λ y. d x y ≡ false) ys → AllByRecursion (λ z. e (f x) z ≡ false) (map f ys)
    each [] a = tt
    each (y ∷ ys) a = (keeps x y a.0, each ys a.1)

none_first : (a b : Bool) → (a || b) ≡ false → (a ≡ false) × (b ≡ false)
none_first true b is = absurd cc
none_first false b is = (refl, is)

-- what no test finds
pub none_of : {X : Type 0} (p : X → Bool) (xs : List X) → list_any p xs ≡ false → AllByRecursion (λ x. p x ≡ false) xs
none_of p [] n = tt
none_of p (x ∷ xs) n = let both = none_first (p x) (list_any p xs) n in (both.0, none_of p xs both.1)

pub distinct_append : {X : Type 0} (e : X → X → Bool) (xs ys : List X) → IsDistinct e xs → IsDistinct e ys
    → AllByRecursion (λ x. list_any (e x) ys ≡ false) xs → IsDistinct e (xs ++ ys)
distinct_append e [] ys s t apart = t
distinct_append e (x ∷ xs) ys s t apart =
    IsDistinct-cons e x (xs ++ ys) (all_append _ xs ys (IsDistinct-head e x xs s) (none_of (e x) ys apart.0))
    (distinct_append e xs ys (IsDistinct-tail e x xs s) t apart.1)

module _ {X Y : Type 0} (d : X → X → Bool) (e : Y → Y → Bool) (laws : IsEquivalence e) (f : X → List Y)
    (parts : (x : X) → IsDistinct e (f x))
    (apart : (x z : X) (y : Y) → list_any (e y) (f x) ≡ true → list_any (e y) (f z) ≡ true → d x z ≡ true) where
  -- what stands in the part of x stands in no part of an element other than x
  in_no_other : (x : X) (y : Y) → list_any (e y) (f x) ≡ true → (z : X) → d x z ≡ false → list_any (e y) (f z) ≡ false
  in_no_other x y here z other = by (list_any (e y) (f z)) refl
    where
      by : (b : Bool) → list_any (e y) (f z) ≡ b → b ≡ false
      by true is = let clash = apart x z y here is in absurd cc
      by false is = refl

  -- one after the other
  pub distinct_flat : (xs : List X) → IsDistinct d xs → IsDistinct e (flat_map f xs)
  distinct_flat [] s = distinct_none e
  distinct_flat (x ∷ xs) s =
      distinct_append e (f x) (flat_map f xs) (parts x) (distinct_flat xs (IsDistinct-tail d x xs s))
      (recursion_from_All _ (f x) (All-from_any laws (λ y. list_any (e y) (flat_map f xs) ≡ false) (f x)
      (λ y here. any_flat (e y) f xs ∙ list_any_none _ xs (All-from_recursion _ xs
      (all_weaker _ _ (in_no_other x y here) xs (IsDistinct-head d x xs s))))))

-- ---- the same members

module _ {X : Type 0} (e : X → X → Bool) (laws : IsEquivalence e) (exact : (x y : X) → e x y ≡ true → x ≡ y) where
  -- a member, and then the others
  taken_out : (x : X) (ys : List X) → IsDistinct e ys → list_any (e x) ys ≡ true
      → IsPermutation ys (x ∷ filter (λ y. not (e x y)) ys)
  taken_out x [] d has = absurd cc
  taken_out x (y ∷ ys) d has =
      by (e x y) refl has (taken_out x ys (IsDistinct-tail e y ys d))
    where
      others : AllByRecursion (λ z. not (e y z) ≡ true) ys
      others = all_weaker _ _ (λ z other. ap not other) ys (IsDistinct-head e y ys d)

      by : (b : Bool) → e x y ≡ b → (b || list_any (e x) ys) ≡ true
          → (list_any (e x) ys ≡ true → IsPermutation ys (x ∷ filter (λ z. not (e x z)) ys))
          → IsPermutation (y ∷ ys) (x ∷ filter (λ z. not (e x z)) (y ∷ ys))
      by true is has rest =
          rw is (subst (λ w. IsPermutation (y ∷ ys) (w ∷ filter (λ z. not (e w z)) ys)) (sym (exact x y is))
          (subst (λ l. IsPermutation (y ∷ ys) (y ∷ l)) (sym (filter_all _ ys others)) (IsPermutation-refl (y ∷ ys))))
      by false is has rest =
          rw is (IsPermutation-trans _ _ _ (IsPermutation-cons y _ _ (rest has))
          (IsPermutation-middle (y ∷ []) x (filter (λ z. not (e x z)) ys)))

  nothing_in : (ys : List X) → ((q : X) → false ≡ list_any (e q) ys) → ys ≡ []
  nothing_in [] same = refl
  nothing_in (y ∷ ys) same = absurd (clash (e y y) (laws.refl y) (same y))
    where
      clash : (b : Bool) → b ≡ true → false ≡ (b || list_any (e y) ys) → ⊥
      clash true is same = cc
      clash false is same = cc

  first_in : (x : X) (xs : List X) → list_any (e x) (x ∷ xs) ≡ true
  first_in x xs = ap (λ b. b || list_any (e x) xs) (laws.refl x)

  pub same_members : (xs ys : List X) → IsDistinct e xs → IsDistinct e ys
      → ((q : X) → list_any (e q) xs ≡ list_any (e q) ys) → IsPermutation xs ys
  same_members [] ys s t same = subst (IsPermutation []) (sym (nothing_in ys same)) (IsPermutation-refl [])
  same_members (x ∷ xs) ys s t same =
      let others = filter (λ y. not (e x y)) ys in
      IsPermutation-trans (x ∷ xs) (x ∷ others) ys
      (IsPermutation-cons x xs others
      (same_members xs others (IsDistinct-tail e x xs s) (distinct_filter e _ ys t) (λ q. by q (e q x) refl)))
      (IsPermutation-sym ys (x ∷ others) (taken_out x ys t (sym (same x) ∙ first_in x xs)))
    where
      by : (q : X) (b : Bool) → e q x ≡ b
          → list_any (e q) xs ≡ list_any (e q) (filter (λ y. not (e x y)) ys)
      by q true is =
          list_any_none (e q) xs (All-from_recursion _ xs
          (all_weaker _ _ (λ z other. laws.congr q x z is ∙ other) xs (IsDistinct-head e x xs s)))
          ∙ sym (any-filter_same (e q) (λ y. not (e x y)) false
          (λ z found. ap not (sym (laws.congr q x z is) ∙ found)) ys)
      by q false is =
          ap (λ b. b || list_any (e q) xs) (sym is) ∙ same q
          ∙ sym (any-filter_same (e q) (λ y. not (e x y)) true
          (λ z found. ap not (laws.symm x z ∙ sym (laws.congr q z x found) ∙ is)) ys)
