-- Lists of which each element passes, and values that hold objects.
use Rattle.std.proofs.Common.{◌≡◌, ℕ, zero, suc, ◌+◌, ◌<◌, ◌≤◌, List, [], ◌∷◌, ◌++◌, Option, Some, None}
use Rattle.std.proofs.Common.{sym, subst, arith}
use Rattle.std.specs.Prelude.{IsSomeAnd, option_map, slice_get, flat_map}
use Rattle.std.specs.declared.cmp.Ordering.{Ordering}
use Rattle.std.specs.declared.cmp.Ordering.TheVariants.{Less, Equal, Greater}
use Rattle.std.specs.Ordering.{nat_cmp, match_ordering}
use Rattle.std.specs.BTreeMap.{is_at}
use Rattle.std.specs.Map.{lookup}
use Rattle.std.specs.BTreeSet.{insert_key}
use Rattle.std.specs.List.{AllByRecursion}
use Rattle.pv_value.specs.Plain.{Plain, record_of, sequence, embedded, no_more, then_more, plains}
use Rattle.pv_value.specs.Plain.{PlainPairs, no_pairs, then_pair}
use Rattle.pv_value.specs.Sets.{ascending_by}
use Rattle.pv_words.specs.Parts.{same, both, value_under}
use Rattle.sr_caveat.specs.declared.caps.Cap.{Cap}
use Rattle.sr_caveat.specs.Caps.{cap_of, cap_value, IsSound}
use Rattle.sr_caveat.specs.Lemmas.Capped.{caps_are_their_values}
use Rattle.pv_words.specs.Lemmas.Found.{If, if_cond}
use Rattle.ac_world.specs.Aims.{observer_in}
use Rattle.rl_wire.specs.Crossing.{held_in, all_held_in, all_pairs_held_in}
use Rattle.rl_wire.specs.Lemmas.Later.{all_of_front, all_of_rest}
use Rattle.hub_valid.specs.Validity.{Lived, IsObjectAt, IsObject, IsObjectValue, HoldsObjects}

-- ---- lists

pub all_weaker : {X : Type 0} (P Q : X → Type 0) → ((x : X) → P x → Q x) → (xs : List X) → AllByRecursion P xs
    → AllByRecursion Q xs
all_weaker P Q f [] a = tt
all_weaker P Q f (x ∷ xs) a = (f x a.0, all_weaker P Q f xs a.1)

pub all_append : {X : Type 0} (P : X → Type 0) (xs ys : List X) → AllByRecursion P xs → AllByRecursion P ys
    → AllByRecursion P (xs ++ ys)
all_append P [] ys a b = b
all_append P (x ∷ xs) ys a b = (a.0, all_append P xs ys a.1 b)

-- where each gives elements that pass
pub all_flat : {X Y : Type 0} (P : X → Type 0) (Q : Y → Type 0) (f : X → List Y)
    → ((x : X) → P x → AllByRecursion Q (f x)) → (xs : List X) → AllByRecursion P xs → AllByRecursion Q (flat_map f xs)
all_flat P Q f each [] a = tt
all_flat P Q f each (x ∷ xs) a = all_append Q (f x) (flat_map f xs) (each x a.0) (all_flat P Q f each xs a.1)

pub all_inserted : {X : Type 0} (P : X → Type 0) (before : X → X → Ordering) (xs : List X) (y : X) → AllByRecursion P xs
    → P y → AllByRecursion P (insert_key before xs y)
all_inserted P before [] y a p = (p, tt)
all_inserted P before (x ∷ xs) y a p = by (before y x) (all_inserted P before xs y a.1 p)
  where
    by : (o : Ordering) → AllByRecursion P (insert_key before xs y)
        → AllByRecursion P (match_ordering o (y ∷ x ∷ xs) (x ∷ xs) (x ∷ insert_key before xs y))
    by Less rest = (p, a)
    by Equal rest = a
    by Greater rest = (a.0, rest)

-- a list that is put in order
pub all_ascending : {X : Type 0} (P : X → Type 0) (before : X → X → Ordering) (xs : List X) → AllByRecursion P xs
    → AllByRecursion P (ascending_by before xs)
all_ascending P before [] a = tt
all_ascending P before (x ∷ xs) a =
    all_inserted P before (ascending_by before xs) x (all_ascending P before xs a.1) a.0

-- what stands under a number
pub all_numbered : {X : Type 0} (P : X → Type 0) (n : ℕ) (es : List (ℕ × X)) → AllByRecursion (λ e. P e.1) es
    → If (lookup (is_at (nat_cmp n)) es) P
all_numbered P n [] a = tt
all_numbered P n (e ∷ es) a =
    if_cond P (is_at (nat_cmp n) e.0) (Some e.1) (lookup (is_at (nat_cmp n)) es) a.0 (all_numbered P n es a.1)

-- what stands at a place
pub all_got : {X : Type 0} (P : X → Type 0) (xs : List X) (i : ℕ) → AllByRecursion P xs → If (slice_get xs i) P
all_got P [] i a = tt
all_got P (x ∷ xs) zero a = a.0
all_got P (x ∷ xs) (suc i) a = all_got P xs i a.1

-- ---- references to objects

pub cap_is_object : (n : Lived) (c : Cap) → IsSound c → IsObject n c → IsObjectValue n (cap_value c)
cap_is_object n c sound object = subst (λ o. IsSomeAnd o (IsObject n)) (sym (caps_are_their_values.0 c sound)) object

pub object_found : (n : Lived) (x : Plain) (c : Cap) → IsObjectValue n x → cap_of x ≡ Some c → IsObject n c
object_found n x c h is = subst (λ o. IsSomeAnd o (IsObject n)) is h

-- ---- an object stays one as actors come

-- no fewer connections have come by n than by m, and no fewer watchers were made
abbrev pub IsWithin : Lived → Lived → Type 0
IsWithin m n = (m.opened ≤ n.opened) × (m.watchers ≤ n.watchers)

pub within_same : (n : Lived) → IsWithin n n
within_same n = (omega arith, omega arith)

pub later_at : (m n : Lived) (actor entity : ℕ) → IsWithin m n → IsObjectAt m actor entity → IsObjectAt n actor entity
later_at m n actor entity l h = (
  omega (arith, l.0, h.0),
  h.1,
  λ near. (let low : actor < 9 + m.watchers = (h.2 near).0 in omega (arith, l.1, low), (h.2 near).1),
)

later_object : (m n : Lived) (c : Cap) → IsWithin m n → IsObject m c → IsObject n c
later_object m n c l h = later_at m n c.actor c.entity l h

pub later_inside : (m n : Lived) (x : Plain) → IsWithin m n → IsObjectValue m x → IsObjectValue n x
later_inside m n x l h = by (cap_of x) h
  where
    by : (o : Option Cap) → IsSomeAnd o (IsObject m) → IsSomeAnd o (IsObject n)
    by None h = absurd h
    by (Some c) h = later_object m n c l h

pub later_value : (m n : Lived) (v : Plain) → IsWithin m n → HoldsObjects m v → HoldsObjects n v
later_value m n v l h = all_weaker (IsObjectValue m) (IsObjectValue n) (λ x. later_inside m n x l) (held_in v) h

-- ---- what observations name

pub observer_is_object : (n : Lived) (o : Plain) → HoldsObjects n o → If (observer_in o) (IsObjectValue n)
observer_is_object n (record_of l (then_more p (then_more (embedded x) no_more))) h =
    let fields = all_of_rest (IsObjectValue n) (held_in l) (held_in p ++ x ∷ []) h in
    (all_of_rest (IsObjectValue n) (held_in p) (x ∷ []) fields).0
observer_is_object n o h = tt

-- ---- sequences

pub sequence_holds : (n : Lived) (cs : List Plain) → AllByRecursion (HoldsObjects n) cs
    → HoldsObjects n (sequence (plains cs))
sequence_holds n [] a = tt
sequence_holds n (c ∷ cs) a =
    all_append (IsObjectValue n) (held_in c) (all_held_in (plains cs)) a.0 (sequence_holds n cs a.1)

-- ---- what is found in values that hold objects

-- each value of the list does, where there is one
abbrev pub FoundHold : Lived → Option (List Plain) → Type 0
FoundHold n o = If o (AllByRecursion (HoldsObjects n))

pub one_more_holds : (n : Lived) (v : Plain) (o : Option (List Plain)) → HoldsObjects n v → FoundHold n o
    → FoundHold n (option_map (λ xs. v ∷ xs) o)
one_more_holds n v None h a = tt
one_more_holds n v (Some xs) h a = (h, a)

pub both_hold : (n : Lived) (o q : Option (List Plain)) → FoundHold n o → FoundHold n q → FoundHold n (both o q)
both_hold n None q a b = tt
both_hold n (Some xs) None a b = tt
both_hold n (Some xs) (Some ys) a b = all_append (HoldsObjects n) xs ys a b

pub value_holds : (n : Lived) (ps : PlainPairs) (key : Plain) → AllByRecursion (IsObjectValue n) (all_pairs_held_in ps)
    → If (value_under ps key) (HoldsObjects n)
value_holds n no_pairs key h = tt
value_holds n (then_pair k v ps) key h =
    let first = all_of_front (IsObjectValue n) (held_in k ++ held_in v) (all_pairs_held_in ps) h in
    if_cond (HoldsObjects n) (same k key) (Some v) (value_under ps key)
    (all_of_rest (IsObjectValue n) (held_in k) (held_in v) first)
    (value_holds n ps key (all_of_rest (IsObjectValue n) (held_in k ++ held_in v) (all_pairs_held_in ps) h))
