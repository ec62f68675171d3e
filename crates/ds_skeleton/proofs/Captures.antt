-- Counts over values, and over fewer among which those that pass the test stand.
use Rattle.std.proofs.Common.{◌≡◌, ℕ, ◌+◌, List, [], ◌∷◌, length, Bool, true, false, cond, ◌&&◌, ◌||◌}
use Rattle.std.proofs.Common.{Option, Some, None, refl, ap, sym, ◌∙◌, arith}
use Rattle.std.specs.List.{list_all, filter}
use Rattle.std.specs.List.Sorted.{IsStrictlySortedBy}
use Rattle.std.proofs.lemmas.List.Kept.{IsStrictlySortedBy-filter}
use Rattle.std.proofs.lemmas.Map.Views.{any-filter_same}
use Rattle.pv_value.specs.Plain.{Plain}
use Rattle.pv_value.specs.Order.{order}
use Rattle.pv_words.specs.Lemmas.Same.{same_is, same_self}
use Rattle.pv_words.specs.Parts.{same}
use Rattle.ds_shape.specs.Paths.{sequence_at}
use Rattle.ds_shape.specs.Outlines.{Outline, passes}
use Rattle.ds_space.specs.Changes.{among}
use Rattle.ds_space.specs.Lemmas.Lists.{unique}
use Rattle.ds_skeleton.specs.Places.{Parts, stand, stands, found, is_found, count}
use Rattle.ds_skeleton.proofs.Truths.{same_truth, or_true}

clash : {A : Type 0} → true ≡ false → A
clash e = cc

-- ---- two lists that ascend

count_those : (f : Plain → Bool) (xs : List Plain) → count f xs ≡ length (filter f xs)
count_those f [] = refl
count_those f (x ∷ xs) = by (f x) (count_those f xs)
  where
    by : (b : Bool) → count f xs ≡ length (filter f xs)
        → cond b 1 0 + count f xs ≡ length (cond b (x ∷ filter f xs) (filter f xs))
    by true i = omega (arith, i)
    by false i = omega (arith, i)

among_those : (f : Plain → Bool) (q : Plain) (xs : List Plain) → among q (filter f xs) ≡ (f q && among q xs)
among_those f q xs = any-filter_same (same q) f (f q) (λ k e. ap f (sym (same_is q k e))) xs

those_alike : (f : Plain → Bool) (xs ys : List Plain) → IsStrictlySortedBy order xs → IsStrictlySortedBy order ys
    → ((v : Plain) → f v ≡ true → among v xs ≡ among v ys) → filter f xs ≡ filter f ys
those_alike f xs ys s t h =
    unique (filter f xs) (filter f ys) (IsStrictlySortedBy-filter order f xs s) (IsStrictlySortedBy-filter order f ys t)
    (λ q. among_those f q xs ∙ by q (f q) (h q) ∙ sym (among_those f q ys))
  where
    by : (q : Plain) (b : Bool) → (b ≡ true → among q xs ≡ among q ys) → (b && among q xs) ≡ (b && among q ys)
    by q true i = i refl
    by q false i = refl

count_alike : (f : Plain → Bool) (xs ys : List Plain) → IsStrictlySortedBy order xs → IsStrictlySortedBy order ys
    → ((v : Plain) → f v ≡ true → among v xs ≡ among v ys) → count f xs ≡ count f ys
count_alike f xs ys s t h =
    count_those f xs ∙ ap (λ (zs : List Plain). length zs) (those_alike f xs ys s t h) ∙ sym (count_those f ys)

-- ---- those that have the constants

and_left : (a b : Bool) → (a && b) ≡ true → a ≡ true
and_left true b e = refl
and_left false b e = e

has_constants : (o : Outline) (k c v : Plain) → stands o k c v ≡ true → sequence_at o.constants v ≡ Some k
unfolding stand
has_constants o k c v e =
    by (list_all (passes v) o.tests) (sequence_at o.constants v) (sequence_at o.captures v) e
  where
    by : (b : Bool) (x y : Option Plain) → is_found (cond {A = Option Parts} b (found x y) None) k c ≡ true → x ≡ Some k
    by true (Some x) (Some y) e = ap Some (same_is x k (and_left (same x k) (same y c) e))
    by true (Some x) None e = clash (sym e)
    by true None y e = clash (sym e)
    by false x y e = clash (sym e)

pub counted_near : (vs ws : List Plain) (o : Outline) (k : Plain)
    → IsStrictlySortedBy order vs → IsStrictlySortedBy order ws
    → ((v : Plain) → among v ws ≡ true → among v vs ≡ true)
    → ((v : Plain) → among v vs ≡ true → sequence_at o.constants v ≡ Some k → among v ws ≡ true)
    → (c : Plain) → count (stands o k c) ws ≡ count (stands o k c) vs
counted_near vs ws o k s t from into c =
    count_alike (stands o k c) ws vs t s
    (λ v e. same_truth (among v ws) (among v vs) (from v) (λ h. into v h (has_constants o k c v e)))

none_counted : (f : Plain → Bool) (vs : List Plain) → ((v : Plain) → among v vs ≡ true → f v ≡ false) → count f vs ≡ 0
none_counted f [] h = refl
none_counted f (v ∷ vs) h =
    ap (λ b. cond {A = ℕ} b 1 0 + count f vs) (h v (ap (λ b. b || among v vs) (same_self v)))
    ∙ none_more (count f vs) (none_counted f vs (λ x e. h x (or_true (same x v) (among x vs) e)))
  where
    none_more : (n : ℕ) → n ≡ 0 → 0 + n ≡ 0
    none_more n e = omega (arith, e)

pub counted_nowhere : (vs : List Plain) (o : Outline) (k : Plain)
    → ((v : Plain) → among v vs ≡ true → sequence_at o.constants v ≡ Some k → ⊥)
    → (c : Plain) → count (stands o k c) vs ≡ 0
counted_nowhere vs o k none c =
    none_counted (stands o k c) vs (λ v e. by v (stands o k c v) refl e)
  where
    by : (v : Plain) (b : Bool) → stands o k c v ≡ b → among v vs ≡ true → b ≡ false
    by v true e h = absurd (none v h (has_constants o k c v e))
    by v false e h = refl

-- ---- one value's parts

pub one_found : (e : Parts) (k c : Plain) (n : ℕ) → same e.constants k ≡ true
    → n + cond (same e.captures c) 1 0 ≡ n + cond (is_found (Some e) k c) 1 0
one_found e k c n is = ap (λ b. n + cond (b && same e.captures c) 1 0) (sym is)

pub one_other : (e : Parts) (k c : Plain) (n : ℕ) → same e.constants k ≡ false
    → n ≡ n + cond (is_found (Some e) k c) 1 0
one_other e k c n is = none_more n ∙ ap (λ b. n + cond (b && same e.captures c) 1 0) (sym is)
  where
    none_more : (n : ℕ) → n ≡ n + 0
    none_more n = omega arith

-- ---- one value alone

pub first_count : (a n m : ℕ) → a ≡ n + m → n ≡ 0 → a ≡ m
first_count a n m e f = omega (arith, e, f)

pub count_alone : (f : Plain → Bool) (v : Plain) → cond (f v) 1 0 ≡ count f (v ∷ [])
count_alone f v = none_more (cond (f v) 1 0)
  where
    none_more : (n : ℕ) → n ≡ n + 0
    none_more n = omega arith
