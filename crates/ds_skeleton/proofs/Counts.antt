-- Counts over lists.
use Rattle.std.proofs.Common.{◌≡◌, ℕ, ◌+◌, ◌-◌, List, [], ◌∷◌, ◌++◌, map, Bool, true, false, cond, ◌&&◌, ◌||◌, ltb}
use Rattle.std.proofs.Common.{refl, ap, ◌∙◌, subst, arith}
use Rattle.std.specs.List.{list_any, AllByRecursion, IsDistinct}
use Rattle.std.specs.List.Sorted.{IsStrictlySortedBy}
use Rattle.std.specs.Ordering.{eq_by_cmp}
use Rattle.std.specs.Map.Iter.{deref}
use Rattle.std.specs.Borrow.{Bor}
use Rattle.std.proofs.lemmas.Bool.Decides.{nat_tests}
use Rattle.std.proofs.lemmas.Map.Keys.{IsDistinct-from_sorted, IsDistinct-head, IsDistinct-tail}
use Rattle.ds_shape.specs.Outlines.{Outline}
use Rattle.ds_skeleton.specs.Places.{outline_order, same_outline, count}
use Rattle.ds_skeleton.proofs.Same.{outline_is, outline_self, outline_turns}

pub any-count : {X : Type 0} (p : X → Bool) (xs : List X) → list_any p xs ≡ ltb 0 (count p xs)
any-count p [] = refl
any-count p (x ∷ xs) = by (p x) (any-count p xs)
  where
    by : (b : Bool) → list_any p xs ≡ ltb 0 (count p xs) → (b || list_any p xs) ≡ ltb 0 (cond b 1 0 + count p xs)
    by true i = grind (arith, nat_tests)
    by false i = grind (arith, nat_tests, i)

pub count-seen_push : {X : Type 0} (p : X → Bool) (xs : List (Bor X)) (y : Bor X)
    → count p (map deref (xs ++ y ∷ [])) ≡ count p (map deref xs) + cond (p y.now) 1 0
count-seen_push p [] y = grind arith
count-seen_push p (x ∷ xs) y = grind (arith, count-seen_push p xs y)

-- no outline is equal to the first one
none_after : (x : Outline) (f : Outline → Bool) (xs : List Outline)
    → AllByRecursion (λ y. eq_by_cmp outline_order x y ≡ false) xs
    → (count (λ s. same_outline s x && f s) xs ≡ 0) × (list_any (same_outline x) xs ≡ false)
none_after x f [] h = (refl, refl)
none_after x f (y ∷ ys) h =
    let t : same_outline x y ≡ false = h.0 in
    let u : same_outline y x ≡ false = outline_turns y x ∙ t in
    let i = none_after x f ys h.1 in (
      rw u (let j : count (λ s. same_outline s x && f s) ys ≡ 0 = i.0 in omega arith),
      rw t i.1,
    )

one_more : (x k : Outline) (f : Outline → Bool) (xs : List Outline) (b : Bool) → same_outline x k ≡ b
    → AllByRecursion (λ y. eq_by_cmp outline_order x y ≡ false) xs
    → count (λ s. same_outline s k && f s) xs ≡ cond (list_any (same_outline k) xs && f k) 1 0
    → count (λ s. same_outline s k && f s) (x ∷ xs) ≡ cond (list_any (same_outline k) (x ∷ xs) && f k) 1 0
one_more x k f xs false is h i =
    let t : same_outline k x ≡ false = outline_turns k x ∙ is in
    rw (is, t) (omega (arith, i))
one_more x k f xs true is h i =
    let P : Outline → Type 0 =
    λ k. count (λ s. same_outline s k && f s) (x ∷ xs) ≡ cond (list_any (same_outline k) (x ∷ xs) && f k) 1 0 in
    let j : count (λ s. same_outline s x && f s) xs ≡ 0 = (none_after x f xs h).0 in
    subst P (outline_is x k is) (rw (outline_self x) (omega (arith, j)))

count_one : (k : Outline) (f : Outline → Bool) (xs : List Outline) → IsDistinct (eq_by_cmp outline_order) xs
    → count (λ s. same_outline s k && f s) xs ≡ cond (list_any (same_outline k) xs && f k) 1 0
count_one k f [] d = refl
count_one k f (x ∷ xs) d =
    one_more x k f xs (same_outline x k) refl (IsDistinct-head (eq_by_cmp outline_order) x xs d)
    (count_one k f xs (IsDistinct-tail (eq_by_cmp outline_order) x xs d))

pub count_once : (k : Outline) (f : Outline → Bool) (xs : List Outline) → IsStrictlySortedBy outline_order xs
    → count (λ s. same_outline s k && f s) xs ≡ cond (list_any (same_outline k) xs && f k) 1 0
count_once k f xs s = count_one k f xs (IsDistinct-from_sorted outline_order xs s)

pub step_up : (a b o n m k : ℕ) → k ≡ a + b → a ≡ o + n → m ≡ n + b → k ≡ o + m
step_up a b o n m k e f g = omega arith

pub step_down : (a b o n m k : ℕ) → k ≡ a - b → a ≡ o - n → m ≡ n + b → k ≡ o - m
step_down a b o n m k e f g = omega arith

-- a step at the outline s alone
by_test : (t x y : Bool) (a o n m k : ℕ) → (t ≡ true → x ≡ y) → k ≡ a + cond (t && x) 1 0 → a ≡ o + cond t n 0
    → m ≡ n + cond y 1 0 → k ≡ o + cond t m 0
by_test true x y a o n m k h e f g = let i = ap (λ b. cond {A = ℕ} b 1 0) (h refl) in omega (arith, i)
by_test false x y a o n m k h e f g = omega arith

by_test_down : (t x y : Bool) (a o n m k : ℕ) → (t ≡ true → x ≡ y) → k ≡ a - cond (t && x) 1 0 → a ≡ o - cond t n 0
    → m ≡ n + cond y 1 0 → k ≡ o - cond t m 0
by_test_down true x y a o n m k h e f g = let i = ap (λ b. cond {A = ℕ} b 1 0) (h refl) in omega (arith, i)
by_test_down false x y a o n m k h e f g = omega arith

pub one_value_more : (f : Outline → Bool) (s t : Outline) (a o n m k : ℕ)
    → k ≡ a + cond (same_outline s t && f s) 1 0 → a ≡ o + cond (same_outline s t) n 0 → m ≡ n + cond (f t) 1 0
    → k ≡ o + cond (same_outline s t) m 0
one_value_more f s t a o n m k e g h =
    by_test (same_outline s t) (f s) (f t) a o n m k (λ is. ap f (outline_is s t is)) e g h

pub one_value_fewer : (f : Outline → Bool) (s t : Outline) (a o n m k : ℕ)
    → k ≡ a - cond (same_outline s t && f s) 1 0 → a ≡ o - cond (same_outline s t) n 0 → m ≡ n + cond (f t) 1 0
    → k ≡ o - cond (same_outline s t) m 0
one_value_fewer f s t a o n m k e g h =
    by_test_down (same_outline s t) (f s) (f t) a o n m k (λ is. ap f (outline_is s t is)) e g h
