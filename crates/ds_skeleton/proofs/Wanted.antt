-- What is wanted, by keys as values and by keys as entries.
use Rattle.std.proofs.Common.{◌≡◌, List, [], ◌∷◌, map, Bool, true, false, cond, ◌&&◌, ◌||◌, not, Option, Some}
use Rattle.std.proofs.Common.{None, refl, ap, sym, ◌∙◌, subst}
use Rattle.std.specs.Prelude.{option_and_then, option_map}
use Rattle.std.specs.List.{list_any, list_all, AllByRecursion}
use Rattle.std.specs.List.Sorted.{IsStrictlySortedBy}
use Rattle.std.specs.Ordering.{ordering_then, is_eq}
use Rattle.std.specs.declared.cmp.Ordering.{Ordering}
use Rattle.std.specs.declared.cmp.Ordering.TheVariants.{Less, Equal, Greater}
use Rattle.pv_value.specs.Plain.{Plain, sequence, plains, then_more, no_more}
use Rattle.pv_value.specs.Order.{order}
use Rattle.pv_value.specs.EntryOrder.{entry_order}
use Rattle.pv_value.specs.WellFormed.{Ascend}
use Rattle.pv_value.specs.declared.Entry.{Entry}
use Rattle.pv_words.specs.Lemmas.Same.{same_is}
use Rattle.pv_words.specs.Parts.{same}
use Rattle.dp_pattern.specs.Patterns.{Pattern}
use Rattle.dp_pattern.specs.Matching.{matched}
use Rattle.ds_shape.specs.Paths.{parts_at, sequence_at}
use Rattle.ds_shape.specs.Outlines.{passes}
use Rattle.ds_shape.specs.Splitting.{outline_of, constants_of}
use Rattle.ds_shape.specs.Standing.{is_found as was_found}
use Rattle.ds_shape.specs.Lemmas.Saying.{matched_captured}
use Rattle.ds_space.specs.Wants.{observer_of, captured, is_key, gives, wanted}
use Rattle.ds_space.specs.Changes.{among, only_over}
use Rattle.ds_space.specs.Lemmas.Keys.{same_turns, any_same, any_none}
use Rattle.ds_skeleton.specs.Places.{Parts, same_entry, place_of, placed, stand, stands, found, is_found, catches}
use Rattle.ds_skeleton.specs.Places.{catches_by, is_wanted}
use Rattle.ds_skeleton.specs.Indexes.{only_in}
use Rattle.ds_skeleton.specs.Keys.{key_value}
use Rattle.ds_skeleton.specs.Laws.{is_captures}
use Rattle.ds_skeleton.proofs.Same.{both_eq}
use Rattle.ds_skeleton.proofs.Exact.{any_with}

-- ---- what an observation captures

and_false : (b : Bool) → (b && false) ≡ false
and_false true = refl
and_false false = refl

by_parts : (t : Bool) (k c : Plain) (a : Option Plain) (b : Option (List Plain))
    → is_captures c (cond {A = Option (List Plain)} (t && was_found k a) b None)
    ≡ is_found (cond {A = Option Parts} t (found a (option_map (λ xs. sequence (plains xs)) b)) None) k c
by_parts false k c a b = refl
by_parts true k c None b = refl
by_parts true k c (Some x) None = none (same k x)
  where
    none : (d : Bool) → is_captures c (cond {A = Option (List Plain)} d None None) ≡ false
    none true = refl
    none false = refl
by_parts true k c (Some x) (Some cs) =
    some (same k x) ∙ ap (λ d. d && same c (sequence (plains cs))) (same_turns k x)
    ∙ ap (λ d. same x k && d) (same_turns c (sequence (plains cs)))
  where
    some : (d : Bool) → is_captures c (cond {A = Option (List Plain)} d (Some cs) None)
        ≡ (d && same c (sequence (plains cs)))
    some true = refl
    some false = refl

pub caught_by : (p : Pattern) (c v : Plain) → is_captures c (matched p v) ≡ stands (outline_of p) (constants_of p) c v
unfolding stand
caught_by p c v =
    ap (is_captures c) (matched_captured p v)
    ∙ by_parts (list_all (passes v) (outline_of p).tests) (constants_of p) c
    (sequence_at (outline_of p).constants v) (parts_at (outline_of p).captures v)

caught_as : (q : Option Pattern) (c v : Plain) → is_captures c (option_and_then (λ p. matched p v) q)
    ≡ catches_by (placed q) c v
caught_as None c v = refl
caught_as (Some p) c v = caught_by p c v

pub caught : (o c v : Plain) → is_captures c (captured o v) ≡ catches o c v
unfolding place_of
caught o c v = caught_as (observer_of o) c v

-- ---- keys

then_equal : (r s : Ordering) → is_eq (ordering_then r (ordering_then s Equal)) ≡ (is_eq r && is_eq s)
then_equal Less s = refl
then_equal Equal Less = refl
then_equal Equal Equal = refl
then_equal Equal Greater = refl
then_equal Greater s = refl

pub same_keys : (p q : Entry) → same (key_value p) (key_value q) ≡ (same p.key q.key && same p.value q.value)
same_keys p q = then_equal (order p.key q.key) (order p.value q.value)

key_by : (q : Entry) (o : Plain) (f : Option (List Plain)) → is_key (key_value q) o f
    ≡ (same q.key o && is_captures q.value f)
key_by q o None = sym (and_false (same q.key o))
key_by q o (Some cs) = same_keys q (record { key = o; value = sequence (plains cs) })

gives_is : (q : Entry) (o v : Plain) → gives (key_value q) o v ≡ (same q.key o && catches q.key q.value v)
gives_is q o v = key_by q o (captured o v) ∙ by (same q.key o) refl
  where
    by : (b : Bool) → same q.key o ≡ b → (b && is_captures q.value (captured o v)) ≡ (b && catches q.key q.value v)
    by true e = caught o q.value v ∙ ap (λ x. catches x q.value v) (sym (same_is q.key o e))
    by false e = refl

any_and : (b : Bool) (p r : Plain → Bool) (xs : List Plain) → ((x : Plain) → p x ≡ (b && r x))
    → list_any p xs ≡ (b && list_any r xs)
any_and true p r xs h = any_same p r xs h
any_and false p r xs h = any_none p xs h

-- a key is wanted where its observation and captures say so
pub wanted_is : (vs : List Plain) (q : Entry) → wanted vs (key_value q) ≡ is_wanted vs q.key q.value
wanted_is vs q =
    any_with (λ o. list_any (gives (key_value q) o) vs) (same q.key) (list_any (catches q.key q.value) vs) vs
    (λ o. any_and (same q.key o) (gives (key_value q) o) (catches q.key q.value) vs (gives_is q o))

-- ---- values that are no keys

abbrev is_no_key : Plain → Bool
is_no_key (sequence (then_more o (then_more c no_more))) = false
is_no_key k = true

not_same : (k : Plain) (q : Entry) → is_no_key k ≡ true → same k (key_value q) ≡ false
not_same k q h = by (same k (key_value q)) refl
  where
    clash : true ≡ false → ⊥
    clash e = cc

    by : (b : Bool) → same k (key_value q) ≡ b → b ≡ false
    by true e = absurd (clash (sym h ∙ ap is_no_key (same_is k (key_value q) e)))
    by false e = refl

no_key_by : (k o : Plain) (f : Option (List Plain)) → is_no_key k ≡ true → is_key k o f ≡ false
no_key_by k o None h = refl
no_key_by k o (Some cs) h = not_same k (record { key = o; value = sequence (plains cs) }) h

none_wanted : (vs : List Plain) (k : Plain) → is_no_key k ≡ true → wanted vs k ≡ false
none_wanted vs k h =
    any_none (λ o. list_any (gives k o) vs) vs
    (λ o. any_none (gives k o) vs (λ v. no_key_by k o (captured o v) h))

pub among_keys : (q : Entry) (qs : List Entry) → among (key_value q) (map key_value qs) ≡ list_any (same_entry q) qs
among_keys q [] = refl
among_keys q (p ∷ ps) =
    ap (λ b. b || among (key_value q) (map key_value ps))
    (same_keys q p ∙ sym (both_eq (order q.key p.key) (order q.value p.value)))
    ∙ ap (λ b. same_entry q p || b) (among_keys q ps)

none_among : (k : Plain) (qs : List Entry) → is_no_key k ≡ true → among k (map key_value qs) ≡ false
none_among k [] h = refl
none_among k (q ∷ qs) h = ap (λ b. b || among k (map key_value qs)) (not_same k q h) ∙ none_among k qs h

never : {A : Type 0} → true ≡ false → A
never e = absurd (clash e)
  where
    clash : true ≡ false → ⊥
    clash e = cc

-- the keys that are wanted over the one list alone, by entries and by values
pub only_keys : (old new : List Plain) (qs : List Entry)
    → ((q : Entry) → list_any (same_entry q) qs ≡ only_in old new q)
    → (k : Plain) → among k (map key_value qs) ≡ only_over old new k
only_keys old new qs h k = by (is_no_key k) refl
  where
    at_key : (q : Entry) → key_value q ≡ k → among k (map key_value qs) ≡ only_over old new k
    at_key q e =
        subst (λ k. among k (map key_value qs) ≡ only_over old new k) e
        (among_keys q qs ∙ h q
        ∙ (λ i. sym (wanted_is old q) i && not (sym (wanted_is new q) i)))

    of_key : (k : Plain) → is_no_key k ≡ false → (q : Entry) × (key_value q ≡ k)
    of_key (sequence (then_more o (then_more c no_more))) e = (record { key = o; value = c }, refl)
    of_key k e = never e

    by : (b : Bool) → is_no_key k ≡ b → among k (map key_value qs) ≡ only_over old new k
    by true e = none_among k qs e ∙ (λ i. sym (none_wanted old k e) i && not (wanted new k))
    by false e = let found = of_key k e in at_key found.0 found.1

-- ---- keys in order

pair_less : (r s : Ordering) → ordering_then r s ≡ Less → ordering_then r (ordering_then s Equal) ≡ Less
pair_less Less s e = refl
pair_less Equal Less e = refl
pair_less Equal Equal e = e
pair_less Equal Greater e = e
pair_less Greater s e = e

all_less : (p : Entry) (qs : List Entry) → AllByRecursion (λ q. entry_order p q ≡ Less) qs
    → AllByRecursion (λ k. order (key_value p) k ≡ Less) (map key_value qs)
all_less p [] a = tt
all_less p (q ∷ qs) a = (pair_less (order p.key q.key) (order p.value q.value) a.0, all_less p qs a.1)

pub keys_ascend : (qs : List Entry) → IsStrictlySortedBy entry_order qs → Ascend (map key_value qs)
unfolding IsStrictlySortedBy
keys_ascend [] s = tt
keys_ascend (q ∷ qs) s = (all_less q qs s.0, keys_ascend qs s.1)
