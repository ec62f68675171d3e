-- To whom a message goes: the observations that the index finds are those that capture something of it.
use Rattle.std.proofs.Common.{◌≡◌, ◌+◌, List, [], ◌∷◌, ◌++◌, map, Bool, true, false, ◌&&◌, ◌||◌}
use Rattle.std.proofs.Common.{Option, Some, None, option_and_then, refl, ap, sym, ◌∙◌, arith}
use Rattle.std.specs.List.{list_any, flat_map, AllByRecursion}
use Rattle.std.specs.List.Sorted.{IsStrictlySortedBy}
use Rattle.std.specs.Ordering.{ordering_then}
use Rattle.std.specs.declared.cmp.Ordering.TheVariants.{Less}
use Rattle.std.specs.BTreeMap.{BTreeMap}
use Rattle.std.proofs.lemmas.Map.Lookups.{btree_set_from_contains}
use Rattle.pv_value.specs.Plain.{Plain, sequence, plains, listed}
use Rattle.pv_value.specs.Order.{order}
use Rattle.pv_value.specs.EntryOrder.{entry_order}
use Rattle.pv_value.specs.Sets.{ascending_by}
use Rattle.pv_value.specs.WellFormed.{Ascend}
use Rattle.pv_value.specs.Weight.{weight}
use Rattle.pv_value.specs.Lemmas.EntryOrderLaws.{entry_order_total}
use Rattle.pv_value.specs.Lemmas.Listed.{listed-plains}
use Rattle.pv_value.specs.declared.Entry.{Entry}
use Rattle.pv_words.specs.Lemmas.Same.{same_is}
use Rattle.pv_words.specs.Parts.{same}
use Rattle.ds_shape.specs.Outlines.{Outline}
use Rattle.ds_space.specs.Wants.{captured}
use Rattle.ds_space.specs.Changes.{among}
use Rattle.ds_space.specs.declared.space.Fanned.{Fanned}
use Rattle.ds_space.specs.Fans.{fan_for, fan_of, weight_of_fanned}
use Rattle.ds_space.specs.Lemmas.Keys.{same_turns, any_flat}
use Rattle.ds_space.specs.Lemmas.Lists.{in_order, ascending_any}
use Rattle.ds_skeleton.specs.Places.{Place, Parts, same_entry, same_outline, same_place, place_of, is_placed, stand}
use Rattle.ds_skeleton.specs.Places.{stands}
use Rattle.ds_skeleton.specs.Places.{is_found, catches, catches_by}
use Rattle.ds_skeleton.specs.Leaves.{Leaf, leaf_at, observed_at}
use Rattle.ds_skeleton.specs.Shapes.{Shape, shape_at, is_kept, leaf_of, AreInOrder}
use Rattle.ds_skeleton.specs.Indexes.{IsIndexOf, met, met_by}
use Rattle.ds_skeleton.specs.Laws.{is_captures}
use Rattle.ds_skeleton.specs.Keys.{fanned_of, weight_of_entries}
use Rattle.ds_skeleton.proofs.Exact.{any_with}
use Rattle.ds_skeleton.proofs.Found.{any_found, none_found}
use Rattle.ds_skeleton.proofs.Kept.{covered}
use Rattle.ds_skeleton.proofs.Same.{both_eq, exact_entry, outline_is}
use Rattle.ds_skeleton.proofs.Wanted.{caught}

-- ---- the keys that the index finds

and_false : (b : Bool) → (b && false) ≡ false
and_false true = refl
and_false false = refl

unmet : (m : Plain) (q : Entry) (s : Shape) → ((k : Plain) → observed_at (leaf_at s.leaves k) q.key ≡ false)
    → met m q s ≡ false
unmet m q s h = by (stand s.outline m)
  where
    by : (e : Option Parts) → met_by s.leaves e q ≡ false
    by None = refl
    by (Some e) = ap (λ t. same e.captures q.value && t) (h e.constants) ∙ and_false (same e.captures q.value)

met_here : (leaves : BTreeMap Plain Leaf) (k : Plain) (q : Entry)
    → ((l : Plain) → observed_at (leaf_at leaves l) q.key ≡ same k l)
    → (e : Option Parts) → met_by leaves e q ≡ is_found e k q.value
met_here leaves k q obs None = refl
met_here leaves k q obs (Some e) =
    ap (λ t. same e.captures q.value && t) (obs e.constants ∙ same_turns k e.constants)
    ∙ turned (same e.captures q.value) (same e.constants k)
  where
    turned : (a b : Bool) → (a && b) ≡ (b && a)
    turned true true = refl
    turned true false = refl
    turned false true = refl
    turned false false = refl

abbrev place : Outline → Plain → Place
place s k = record { outline = s; constants = k }

leaf_here : (S : List Shape) (r : Shape) (q : Entry) (k : Plain) → shape_at S r.outline ≡ Some r
    → observed_at (leaf_at r.leaves k) q.key ≡ observed_at (leaf_of S (place r.outline k)) q.key
leaf_here S r q k found =
    sym (ap (λ x. observed_at (option_and_then (λ t. leaf_at t.leaves k) x) q.key) found)

met_each : (S : List Shape) (m : Plain) (s : Outline) (k : Plain) (q : Entry)
    → ((r : Place) → observed_at (leaf_of S r) q.key ≡ same_place (place s k) r)
    → (r : Shape) → shape_at S r.outline ≡ Some r → met m q r ≡ (same_outline s r.outline && stands s k q.value m)
met_each S m s k q obs r found = by (same_outline s r.outline) refl
  where
    seen : (b : Bool) → same_outline s r.outline ≡ b → (l : Plain)
        → observed_at (leaf_at r.leaves l) q.key ≡ (b && same k l)
    seen b e l = leaf_here S r q l found ∙ obs (place r.outline l) ∙ ap (λ t. t && same k l) e

    by : (b : Bool) → same_outline s r.outline ≡ b → met m q r ≡ (b && stands s k q.value m)
    by true e =
        met_here r.leaves k q (seen true e) (stand r.outline m)
        ∙ ap (λ o. stands o k q.value m) (sym (outline_is s r.outline e))
    by false e = unmet m q r (seen false e)

none_met : (S : List Shape) (m : Plain) (q : Entry) → AreInOrder S
    → ((p : Place) → observed_at (leaf_of S p) q.key ≡ false) → list_any (met m q) S ≡ false
none_met S m q o h =
    none_found S (met m q) o (λ r found. unmet m q r (λ k. leaf_here S r q k found ∙ h (place r.outline k)))

met_by_place : (vs : List Plain) (S : List Shape) (m : Plain) (q : Entry) (so : Option Place) → AreInOrder S
    → ((p : Place) → observed_at (leaf_of S p) q.key ≡ (among q.key vs && is_placed so p))
    → ((p : Place) → among q.key vs ≡ true → so ≡ Some p → is_kept S p.outline ≡ true)
    → list_any (met m q) S ≡ (among q.key vs && catches_by so q.value m)
met_by_place vs S m q None o obs kept =
    none_met S m q o (λ p. obs p ∙ and_false (among q.key vs)) ∙ sym (and_false (among q.key vs))
met_by_place vs S m q (Some p) o obs kept = by (among q.key vs) refl
  where
    by : (b : Bool) → among q.key vs ≡ b → list_any (met m q) S ≡ (b && catches_by (Some p) q.value m)
    by true e =
        any_found S (met m q) p.outline (stands p.outline p.constants q.value m) o
        (met_each S m p.outline p.constants q (λ r. obs r ∙ ap (λ t. t && same_place p r) e))
        ∙ ap (λ t. t && stands p.outline p.constants q.value m) (kept p e refl)
    by false e = none_met S m q o (λ r. obs r ∙ ap (λ t. t && same_place p r) e)

pub met_is : (vs : List Plain) (S : List Shape) → IsIndexOf vs vs S
    → (m : Plain) (q : Entry) → list_any (met m q) S ≡ (among q.key vs && catches q.key q.value m)
met_is vs S index m q =
    met_by_place vs S m q (place_of q.key) index.in_order (λ p. index.observers p q.key)
    (λ p. covered vs vs S index q.key p)

-- ---- the list of them

abbrev pub entry_for : Plain → Option (List Plain) → List Entry
entry_for o None = []
entry_for o (Some cs) = record { key = o; value = sequence (plains cs) } ∷ []

abbrev pub entries_over : List Plain → Plain → List Entry
entries_over os m = flat_map (λ o. entry_for o (captured o m)) os

pub items_listed : (cs : List Plain) → listed (plains cs) ≡ cs
items_listed = listed-plains

map_append : {A B : Type 0} (f : A → B) (xs ys : List A) → map f (xs ++ ys) ≡ map f xs ++ map f ys
map_append f [] ys = refl
map_append f (x ∷ xs) ys = ap (λ l. f x ∷ l) (map_append f xs ys)

fanned_for : (o : Plain) (f : Option (List Plain)) → map fanned_of (entry_for o f) ≡ fan_for o f
fanned_for o None = refl
fanned_for o (Some cs) = ap (λ l. record { observe = o; captures = l } ∷ []) (items_listed cs)

fanned_over : (os : List Plain) (m : Plain) → map fanned_of (entries_over os m)
    ≡ flat_map (λ o. fan_for o (captured o m)) os
fanned_over [] m = refl
fanned_over (o ∷ os) m =
    map_append fanned_of (entry_for o (captured o m)) (entries_over os m)
    ∙ (λ i. fanned_for o (captured o m) i ++ fanned_over os m i)

weight_append : (xs ys : List Fanned) → weight_of_fanned (xs ++ ys) ≡ weight_of_fanned xs + weight_of_fanned ys
weight_append [] ys = omega arith
weight_append (x ∷ xs) ys = let i = weight_append xs ys in omega (arith, i)

weight_fanned : (os : List Plain) (m : Plain)
    → weight_of_entries (entries_over os m) ≡ weight_of_fanned (flat_map (λ o. fan_for o (captured o m)) os)
weight_fanned [] m = refl
weight_fanned (o ∷ os) m =
    by (captured o m) (weight_fanned os m)
  where
    by : (f : Option (List Plain))
        → weight_of_entries (entries_over os m) ≡ weight_of_fanned (flat_map (λ o. fan_for o (captured o m)) os)
        → weight_of_entries (entry_for o f ++ entries_over os m)
        ≡ weight_of_fanned (fan_for o f ++ flat_map (λ o. fan_for o (captured o m)) os)
    by None i = i
    by (Some cs) i = ap (λ n. weight (sequence (plains cs)) + n) i

-- which entries stand in it
one_entry : (q : Entry) (o : Plain) (f : Option (List Plain)) → list_any (same_entry q) (entry_for o f)
    ≡ (same q.key o && is_captures q.value f)
one_entry q o None = sym (and_false (same q.key o))
one_entry q o (Some cs) =
    or_false (same_entry q (record { key = o; value = sequence (plains cs) }))
    ∙ both_eq (order q.key o) (order q.value (sequence (plains cs)))
  where
    or_false : (b : Bool) → (b || false) ≡ b
    or_false true = refl
    or_false false = refl

entry_of_one : (q : Entry) (m o : Plain) → list_any (same_entry q) (entry_for o (captured o m))
    ≡ (same q.key o && catches q.key q.value m)
entry_of_one q m o = one_entry q o (captured o m) ∙ by (same q.key o) refl
  where
    by : (b : Bool) → same q.key o ≡ b → (b && is_captures q.value (captured o m)) ≡ (b && catches q.key q.value m)
    by true e = caught o q.value m ∙ ap (λ x. catches x q.value m) (sym (same_is q.key o e))
    by false e = refl

entries_are : (q : Entry) (os : List Plain) (m : Plain) → list_any (same_entry q) (entries_over os m)
    ≡ (among q.key os && catches q.key q.value m)
entries_are q os m =
    any_flat (same_entry q) (λ o. entry_for o (captured o m)) os
    ∙ any_with (λ o. list_any (same_entry q) (entry_for o (captured o m))) (same q.key) (catches q.key q.value m) os
    (entry_of_one q m)

-- they ascend
later_less : (o : Plain) (e : Entry) (os : List Plain) (m : Plain) → e.key ≡ o
    → AllByRecursion (λ z. order o z ≡ Less) os → AllByRecursion (λ f. entry_order e f ≡ Less) (entries_over os m)
later_less o e [] m is a = tt
later_less o e (p ∷ ps) m is a = by (captured p m) (later_less o e ps m is a.1)
  where
    by : (f : Option (List Plain)) → AllByRecursion (λ f. entry_order e f ≡ Less) (entries_over ps m)
        → AllByRecursion (λ f. entry_order e f ≡ Less) (entry_for p f ++ entries_over ps m)
    by None h = h
    by (Some cs) h =
        (ap (λ r. ordering_then r (order e.value (sequence (plains cs)))) (ap (λ k. order k p) is ∙ a.0), h)

entries_ascend : (os : List Plain) (m : Plain) → Ascend os → IsStrictlySortedBy entry_order (entries_over os m)
unfolding IsStrictlySortedBy
entries_ascend [] m s = tt
entries_ascend (o ∷ os) m s = by (captured o m) (entries_ascend os m s.1)
  where
    by : (f : Option (List Plain)) → IsStrictlySortedBy entry_order (entries_over os m)
        → IsStrictlySortedBy entry_order (entry_for o f ++ entries_over os m)
    by None h = h
    by (Some cs) h = (later_less o (record { key = o; value = sequence (plains cs) }) os m refl s.0, h)

-- entries in order that hold what is caught are the only ones
pub entries_of : (vs : List Plain) (m : Plain) (qs : List Entry) → IsStrictlySortedBy entry_order qs
    → ((q : Entry) → list_any (same_entry q) qs ≡ (among q.key vs && catches q.key q.value m))
    → qs ≡ entries_over (ascending_by order vs) m
entries_of vs m qs s h =
    btree_set_from_contains entry_order_total (record { keys = qs })
    (record { keys = entries_over (ascending_by order vs) m }) s
    (entries_ascend (ascending_by order vs) m (in_order vs))
    (λ q. h q ∙ ap (λ b. b && catches q.key q.value m) (sym (ascending_any (same q.key) vs))
    ∙ sym (entries_are q (ascending_by order vs) m))
    exact_entry

pub fan_is : (vs : List Plain) (m : Plain) (qs : List Entry) → IsStrictlySortedBy entry_order qs
    → ((q : Entry) → list_any (same_entry q) qs ≡ (among q.key vs && catches q.key q.value m))
    → map fanned_of qs ≡ fan_of vs m
fan_is vs m qs s h = ap (map fanned_of) (entries_of vs m qs s h) ∙ fanned_over (ascending_by order vs) m

pub fan_weighs : (vs : List Plain) (m : Plain) (qs : List Entry) → IsStrictlySortedBy entry_order qs
    → ((q : Entry) → list_any (same_entry q) qs ≡ (among q.key vs && catches q.key q.value m))
    → weight_of_entries qs ≡ weight_of_fanned (fan_of vs m)
fan_weighs vs m qs s h =
    ap weight_of_entries (entries_of vs m qs s h) ∙ weight_fanned (ascending_by order vs) m
