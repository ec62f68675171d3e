-- The set of a list, as reading computes it.
use Rattle.std.proofs.Common.{◌≡◌, ℕ, zero, suc, Bool, true, false, not, ◌&&◌, cond, List, [], ◌∷◌, take, Option, Some}
use Rattle.std.proofs.Common.{None, Err, refl, sym, ap, ◌∙◌, arith}
use Rattle.std.specs.Ordering.{eq_by_cmp}
use Rattle.std.specs.Cmp.{eq_by_cmp_equiv}
use Rattle.std.specs.Prelude.{Contains}
use Rattle.std.specs.List.{list_any, slice_get, IsDistinct, AllByRecursion}
use Rattle.std.specs.List.Sorted.{IsPermutation}
use Rattle.std.proofs.lemmas.List.Elements.{All-from_recursion}
use Rattle.std.proofs.lemmas.List.Folds.{list_any_none}
use Rattle.std.proofs.lemmas.List.Sorted.{IsPermutation-sym}
use Rattle.std.proofs.lemmas.Map.Keys.{IsDistinct-IsPermutation, IsDistinct-from_sorted, any_passes_from_place}
use Rattle.pv_value.specs.Plain.{Plain, plains, set_of}
use Rattle.pv_value.specs.Order.{order}
use Rattle.pv_value.specs.Lemmas.OrderLaws.{order_total, order_same}
use Rattle.pv_value.specs.Sets.{IsFirstRepeat, AreDistinct, IsSetFault, IsMade}
use Rattle.pv_value.specs.declared.sets.SetFault.{SetFault}
use Rattle.pv_value.specs.declared.sets.SetFault.TheVariants.{NoMemory, Duplicate}
use Rattle.pv_value.specs.WellFormed.{Ascend}
use Rattle.pv_value.specs.Sets.{ascending_by, all_differ, set_from}
use Rattle.pv_value.specs.Lemmas.Ascending.{ascending_sorted, ascending_is, ascending_moves, or_false}

-- ---- the test

pub differ_from_distinct : (xs : List Plain) → AreDistinct xs → all_differ xs ≡ true
unfolding IsDistinct
differ_from_distinct [] d = refl
differ_from_distinct (x ∷ xs) d =
    rw (
      list_any_none (eq_by_cmp order x) xs (All-from_recursion (λ y. eq_by_cmp order x y ≡ false) xs d.0),
      differ_from_distinct xs d.1,
    )

and_true : (a b : Bool) → (not a && b) ≡ true → (a ≡ false) × (b ≡ true)
and_true true b e = cc
and_true false b e = (refl, e)

none_passes : (p : Plain → Bool) (xs : List Plain) → list_any p xs ≡ false → AllByRecursion (λ y. p y ≡ false) xs
none_passes p [] e = tt
none_passes p (x ∷ xs) e =
    let h = or_false (p x) (list_any p xs) e in
    (h.0, none_passes p xs h.1)

pub distinct_from_differ : (xs : List Plain) → all_differ xs ≡ true → AreDistinct xs
unfolding IsDistinct
distinct_from_differ [] e = tt
distinct_from_differ (x ∷ xs) e =
    let h = and_true (list_any (eq_by_cmp order x) xs) (all_differ xs) e in
    (none_passes (eq_by_cmp order x) xs h.0, distinct_from_differ xs h.1)

and_false : (b : Bool) → (b && false) ≡ false
and_false true = refl
and_false false = refl

pub repeat_fails : (xs : List Plain) (p : ℕ) (x : Plain) → slice_get xs p ≡ Some x → Contains (take p xs) x
    → all_differ xs ≡ false
repeat_fails [] p x e c = cc
repeat_fails (y ∷ ys) zero x e c = absurd (omega (arith, c.1))
repeat_fails (y ∷ ys) (suc p) x e (zero, h, is) =
    rw (any_passes_from_place (eq_by_cmp order y) ys p x e
    (ap (eq_by_cmp order y) (sym is) ∙ (eq_by_cmp_equiv order_total).refl y))
repeat_fails (y ∷ ys) (suc p) x e (suc k, h, is) =
    rw (repeat_fails ys p x e (k, omega arith, is)) (and_false (not (list_any (eq_by_cmp order y) ys)))

-- what ascends has no two equal, and neither has what it was made of
pub distinct_from_ascend : (xs ys : List Plain) → IsPermutation xs ys → Ascend ys → AreDistinct xs
distinct_from_ascend xs ys moved sorted =
    IsDistinct-IsPermutation (eq_by_cmp order) (eq_by_cmp_equiv order_total).symm ys xs (IsPermutation-sym xs ys moved)
    (IsDistinct-from_sorted order ys sorted)

-- ---- sets

pub set_from_ok : (xs ys : List Plain) → IsPermutation xs ys → Ascend ys → set_from xs ≡ Some (set_of (plains ys))
unfolding set_from
set_from_ok xs ys moved sorted =
    rw (
      differ_from_distinct xs (distinct_from_ascend xs ys moved sorted),
      ascending_is order order_total order_same xs ys moved sorted,
    )

pub set_from_repeat : (xs : List Plain) (p : ℕ) → IsFirstRepeat xs p → set_from xs ≡ None
unfolding set_from
set_from_repeat xs p h = rw (repeat_fails xs p h.0 h.1 h.2)

abbrev pub value_or : Plain → Option Plain → Plain
value_or v (Some x) = x
value_or v None = v

pub set_from_is : (xs : List Plain) (v : Plain) → set_from xs ≡ Some v
    → (ys : List Plain) × IsPermutation xs ys × Ascend ys × (v ≡ set_of (plains ys))
unfolding set_from
set_from_is xs v e = by (all_differ xs) refl e
  where
    by : (b : Bool) → all_differ xs ≡ b
        → cond {A = Option Plain} b (Some (set_of (plains (ascending_by order xs)))) (None) ≡ Some v
        → (ys : List Plain) × IsPermutation xs ys × Ascend ys × (v ≡ set_of (plains ys))
    by true d k = (
      ascending_by order xs,
      ascending_moves order order_total order_same xs (distinct_from_differ xs d),
      ascending_sorted order order_total order_same xs,
      sym (ap (value_or v) k),
    )
    by false d k = cc

-- a fault of a list that makes no set, as its function tells it
pub set_fault_made : (xs : List Plain) (e : SetFault) → IsSetFault xs e → IsMade (Err e) (set_from xs)
set_fault_made xs NoMemory h = tt
set_fault_made xs (Duplicate p) h = set_from_repeat xs p h
