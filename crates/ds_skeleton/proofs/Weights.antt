-- The weight of what is wanted, after keys have come or gone.
use Rattle.std.proofs.Common.{◌≡◌, ℕ, ◌+◌, ◌-◌, ◌^◌, min, List, [], ◌∷◌, map, Bool, true, false, ◌&&◌, ◌||◌}
use Rattle.std.proofs.Common.{not, refl, ap, sym, ◌∙◌, subst, arith}
use Rattle.std.specs.List.{list_any, AllByRecursion}
use Rattle.std.specs.List.Sorted.{IsStrictlySortedBy}
use Rattle.std.specs.Ordering.{is_eq, match_ordering}
use Rattle.std.specs.declared.cmp.Ordering.{Ordering}
use Rattle.std.specs.declared.cmp.Ordering.TheVariants.{Less, Equal, Greater}
use Rattle.std.specs.BTreeSet.{insert_key}
use Rattle.pv_value.specs.Plain.{Plain}
use Rattle.pv_value.specs.Order.{order}
use Rattle.pv_value.specs.EntryOrder.{entry_order}
use Rattle.pv_value.specs.WellFormed.{Ascend}
use Rattle.pv_value.specs.Sets.{ascending_by}
use Rattle.pv_value.specs.declared.Entry.{Entry}
use Rattle.pv_words.specs.Lemmas.Same.{same_is, same_self}
use Rattle.pv_words.specs.Parts.{same}
use Rattle.ds_space.specs.Wants.{wants, wanted, weight_of_key, weight_of_keys}
use Rattle.ds_space.specs.Changes.{among, only_over}
use Rattle.ds_space.specs.Lemmas.Lists.{unique, wants_ascend, among_wants, in_order, ascending_any}
use Rattle.ds_skeleton.specs.Places.{same_entry}
use Rattle.ds_skeleton.specs.Indexes.{only_in}
use Rattle.ds_skeleton.specs.Keys.{key_value, weight_of_entries}
use Rattle.ds_skeleton.proofs.Wanted.{only_keys, keys_ascend}

pub weight_of_listed : (qs : List Entry) → weight_of_keys (map key_value qs) ≡ weight_of_entries qs
weight_of_listed [] = refl
weight_of_listed (q ∷ qs) = ap (λ n. weight_of_key (key_value q) + n) (weight_of_listed qs)

around : (a b c : ℕ) → a + (b + c) ≡ b + (a + c)
around a b c = omega arith

clash : {A : Type 0} → true ≡ false → A
clash e = cc

-- a key that isn't there adds its weight
insert_weight : (xs : List Plain) (k : Plain) → among k xs ≡ false
    → weight_of_keys (insert_key order xs k) ≡ weight_of_key k + weight_of_keys xs
insert_weight [] k e = refl
insert_weight (x ∷ xs) k e = by (order k x) refl (insert_weight xs k)
  where
    first : (a b : Bool) → (a || b) ≡ false → a ≡ false
    first true b e = e
    first false b e = refl

    rest : (a b : Bool) → (a || b) ≡ false → b ≡ false
    rest true b e = clash e
    rest false b e = e

    by : (r : Ordering) → order k x ≡ r
        → (among k xs ≡ false → weight_of_keys (insert_key order xs k) ≡ weight_of_key k + weight_of_keys xs)
        → weight_of_keys (match_ordering r (k ∷ x ∷ xs) (x ∷ xs) (x ∷ insert_key order xs k))
        ≡ weight_of_key k + weight_of_keys (x ∷ xs)
    by Less r i = refl
    by Equal r i = clash (sym (ap is_eq r) ∙ first (same k x) (among k xs) e)
    by Greater r i =
        ap (λ n. weight_of_key x + n) (i (rest (same k x) (among k xs) e))
        ∙ around (weight_of_key x) (weight_of_key k) (weight_of_keys xs)

-- ---- two lists put together

abbrev together : List Plain → List Plain → List Plain
together [] xs = xs
together (k ∷ ks) xs = insert_key order (together ks xs) k

any_insert : (p : Plain → Bool) (xs : List Plain) (k : Plain) → list_any p (insert_key order xs k)
    ≡ (p k || list_any p xs)
any_insert p [] k = refl
any_insert p (x ∷ xs) k = by (order k x) refl (any_insert p xs k)
  where
    turn : (a b c : Bool) → (a || (b || c)) ≡ (b || (a || c))
    turn true true c = refl
    turn true false c = refl
    turn false b c = refl

    twice : (a c : Bool) → (a || c) ≡ (a || (a || c))
    twice true c = refl
    twice false c = refl

    by : (r : Ordering) → order k x ≡ r → list_any p (insert_key order xs k) ≡ (p k || list_any p xs)
        → list_any p (match_ordering r (k ∷ x ∷ xs) (x ∷ xs) (x ∷ insert_key order xs k))
        ≡ (p k || (p x || list_any p xs))
    by Less r i = refl
    by Equal r i =
        twice (p x) (list_any p xs) ∙ ap (λ z. p z || (p x || list_any p xs)) (sym (same_is k x (ap is_eq r)))
    by Greater r i = ap (λ b. p x || b) i ∙ turn (p x) (p k) (list_any p xs)

any_together : (p : Plain → Bool) (ks xs : List Plain) → list_any p (together ks xs)
    ≡ (list_any p ks || list_any p xs)
any_together p [] xs = refl
any_together p (k ∷ ks) xs =
    any_insert p (together ks xs) k ∙ ap (λ b. p k || b) (any_together p ks xs)
    ∙ assoc (p k) (list_any p ks) (list_any p xs)
  where
    assoc : (a b c : Bool) → (a || (b || c)) ≡ ((a || b) || c)
    assoc true b c = refl
    assoc false b c = refl

-- the same by sorting all
abbrev joined : List Plain → List Plain → List Plain
joined [] xs = xs
joined (k ∷ ks) xs = k ∷ joined ks xs

together_sorted : (ks xs : List Plain) → Ascend xs → together ks xs ≡ ascending_by order (joined ks xs)
together_sorted [] xs s = unique xs (ascending_by order xs) s (in_order xs) (λ q. sym (ascending_any (same q) xs))
together_sorted (k ∷ ks) xs s = ap (λ l. insert_key order l k) (together_sorted ks xs s)

together_ascends : (ks xs : List Plain) → Ascend xs → Ascend (together ks xs)
together_ascends ks xs s = subst Ascend (sym (together_sorted ks xs s)) (in_order (joined ks xs))

-- no key of the list is the first one
abbrev AllAbove : Plain → List Plain → Type 0
AllAbove x xs = AllByRecursion (λ z. order x z ≡ Less) xs

none_above : (k : Plain) (xs : List Plain) → AllAbove k xs → among k xs ≡ false
none_above k [] a = refl
none_above k (z ∷ zs) a = rw (ap is_eq a.0) (none_above k zs a.1)

together_weight : (ks xs : List Plain) → Ascend ks → ((k : Plain) → among k ks ≡ true → among k xs ≡ false)
    → weight_of_keys (together ks xs) ≡ weight_of_keys ks + weight_of_keys xs
unfolding IsStrictlySortedBy
together_weight [] xs s apart = omega arith
together_weight (k ∷ ks) xs s apart =
    insert_weight (together ks xs) k
    (any_together (same k) ks xs
    ∙ ap (λ b. b || among k xs) (none_above k ks s.0) ∙ apart k (here (same k k) (same_self k)))
    ∙ ap (λ n. weight_of_key k + n)
    (together_weight ks xs s.1 (λ q e. apart q (later (same q k) (among q ks) e)))
    ∙ plus (weight_of_key k) (weight_of_keys ks) (weight_of_keys xs)
  where
    here : (a : Bool) → a ≡ true → (a || among k ks) ≡ true
    here true e = refl
    here false e = clash (sym e)

    later : (a b : Bool) → b ≡ true → (a || b) ≡ true
    later true b e = refl
    later false b e = e

    plus : (a b c : ℕ) → a + (b + c) ≡ a + b + c
    plus a b c = omega arith

-- ---- keys that came, or left

parts_of_all : (n o : Bool) → (o && not n) ≡ false → ((n && not o) || o) ≡ n
parts_of_all true true e = refl
parts_of_all true false e = refl
parts_of_all false true e = clash e
parts_of_all false false e = refl

apart_by : (n o : Bool) → (n && not o) ≡ true → o ≡ false
apart_by true true e = clash (sym e)
apart_by true false e = refl
apart_by false o e = clash (sym e)

-- what is wanted over `more` is what is wanted over `less` and these keys
pub weight_with : (more less : List Plain) (qs : List Entry) → IsStrictlySortedBy entry_order qs
    → ((q : Entry) → list_any (same_entry q) qs ≡ only_in more less q)
    → ((k : Plain) → only_over less more k ≡ false)
    → weight_of_keys (wants more) ≡ weight_of_keys (wants less) + weight_of_entries qs
weight_with more less qs s h none =
    ap weight_of_keys all
    ∙ together_weight (map key_value qs) (wants less) (keys_ascend qs s)
    (λ k e. among_wants k less ∙ apart_by (wanted more k) (wanted less k) (sym (only_keys more less qs h k) ∙ e))
    ∙ ap (λ n. n + weight_of_keys (wants less)) (weight_of_listed qs)
    ∙ turn (weight_of_entries qs) (weight_of_keys (wants less))
  where
    turn : (a b : ℕ) → a + b ≡ b + a
    turn a b = omega arith

    all : wants more ≡ together (map key_value qs) (wants less)
    all =
        unique (wants more) (together (map key_value qs) (wants less)) (wants_ascend more)
        (together_ascends (map key_value qs) (wants less) (wants_ascend less))
        (λ k. among_wants k more ∙ sym (parts_of_all (wanted more k) (wanted less k) (none k))
        ∙ (λ i. sym (only_keys more less qs h k) i || sym (among_wants k less) i)
        ∙ sym (any_together (same k) (map key_value qs) (wants less)))

-- ---- as numbers of 64 bits

pub weight_after : (w b after : ℕ) → after ≡ min (w + min b (2 ^ 64 - 1)) (2 ^ 64 - 1)
    → after ≡ min (w + b) (2 ^ 64 - 1)
weight_after w b after e = omega (arith, e)
