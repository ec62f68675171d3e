-- What patterns capture of values that hold objects.
use Rattle.std.proofs.Common.{ℕ, zero, suc, pos, List, [], ◌∷◌, Option, Some, None}
use Rattle.std.specs.Prelude.{option_and_then}
use Rattle.std.specs.List.{AllByRecursion}
use Rattle.pv_value.specs.Plain.{Plain, integer, record_of, sequence, dictionary, Plains, no_more, then_more, plains}
use Rattle.pv_value.specs.Order.{order}
use Rattle.pv_value.specs.Sets.{ascending_by}
use Rattle.dp_pattern.specs.declared.Group.{Group}
use Rattle.dp_pattern.specs.declared.Group.TheVariants.{InRecord, InSequence, InDictionary}
use Rattle.dp_pattern.specs.Patterns.{Pattern, discard, bind, literal, group, Fields, no_fields, then_field}
use Rattle.pv_words.specs.Parts.{same, item_at, item_under}
use Rattle.dp_pattern.specs.Matching.{is_of, part_of, matched}
use Rattle.dp_pattern.specs.Matching.{matched_fields}
use Rattle.ds_space.specs.Wants.{observer_of, captured, keys_for, keys_by, wants}
use Rattle.ds_space.specs.declared.space.Fanned.{Fanned}
use Rattle.ds_space.specs.Fans.{fan_for, fan_of}
use Rattle.pv_words.specs.Lemmas.Found.{If, if_cond}
use Rattle.rl_wire.specs.Crossing.{held_in, all_held_in}
use Rattle.rl_wire.specs.Lemmas.Later.{all_of_front, all_of_rest}
use Rattle.hub_valid.specs.Validity.{Lived, IsObjectValue, HoldsObjects}
use Rattle.hub_valid.specs.Lemmas.Values.{all_flat, all_ascending, sequence_holds, FoundHold, one_more_holds}
use Rattle.hub_valid.specs.Lemmas.Values.{both_hold, value_holds}

-- ---- parts of values

item_holds : (n : Lived) (xs : Plains) (i : ℕ) → AllByRecursion (IsObjectValue n) (all_held_in xs)
    → If (item_at xs i) (HoldsObjects n)
item_holds n no_more i h = tt
item_holds n (then_more x xs) zero h = all_of_front (IsObjectValue n) (held_in x) (all_held_in xs) h
item_holds n (then_more x xs) (suc i) h =
    item_holds n xs i (all_of_rest (IsObjectValue n) (held_in x) (all_held_in xs) h)

item_under_holds : (n : Lived) (xs : Plains) (key : Plain) → AllByRecursion (IsObjectValue n) (all_held_in xs)
    → If (item_under xs key) (HoldsObjects n)
item_under_holds n xs (integer (pos i)) h = item_holds n xs i h
item_under_holds n xs key h = tt

part_holds : (n : Lived) (g : Group) (v key : Plain) → HoldsObjects n v → If (part_of g v key) (HoldsObjects n)
part_holds n (InRecord label e) (record_of l fs) key h =
    item_under_holds n fs key (all_of_rest (IsObjectValue n) (held_in l) (all_held_in fs) h)
part_holds n (InSequence e) (sequence xs) key h = item_under_holds n xs key h
part_holds n InDictionary (dictionary ps) key h = value_holds n ps key h
part_holds n g v key h = tt

-- ---- captures

of_part : (n : Lived) (p : Pattern) (o : Option Plain) → If o (HoldsObjects n)
    → ((x : Plain) → HoldsObjects n x → FoundHold n (matched p x)) → FoundHold n (option_and_then (matched p) o)
of_part n p None h f = tt
of_part n p (Some x) h f = f x h

mutual
  captures_hold : (n : Lived) (p : Pattern) (v : Plain) → HoldsObjects n v → FoundHold n (matched p v)
  captures_hold n discard v h = tt
  captures_hold n (bind p) v h = one_more_holds n v (matched p v) h (captures_hold n p v h)
  captures_hold n (literal u) v h = if_cond (AllByRecursion (HoldsObjects n)) (same u v) (Some []) None tt tt
  captures_hold n (group g fs) v h =
      if_cond (AllByRecursion (HoldsObjects n)) (is_of g v) (matched_fields g fs v) None (fields_hold n g fs v h) tt

  fields_hold : (n : Lived) (g : Group) (fs : Fields) (v : Plain) → HoldsObjects n v → FoundHold n (matched_fields g fs v)
  fields_hold n g no_fields v h = tt
  fields_hold n g (then_field k p fs) v h =
      both_hold n (option_and_then (matched p) (part_of g v k)) (matched_fields g fs v)
      (of_part n p (part_of g v k) (part_holds n g v k h) (λ x. captures_hold n p x))
      (fields_hold n g fs v h)

observer_captures : (n : Lived) (o v : Plain) → HoldsObjects n v → FoundHold n (captured o v)
observer_captures n o v h = by (observer_of o)
  where
    by : (q : Option Pattern) → FoundHold n (option_and_then (λ p. matched p v) q)
    by None = tt
    by (Some p) = captures_hold n p v h

-- ---- what is wanted

key_holds : (n : Lived) (o : Plain) (q : Option (List Plain)) → HoldsObjects n o → FoundHold n q
    → AllByRecursion (HoldsObjects n) (keys_for o q)
key_holds n o None h a = tt
key_holds n o (Some cs) h a =
    (sequence_holds n (o ∷ sequence (plains cs) ∷ []) (h, (sequence_holds n cs a, tt)), tt)

keys_hold : (n : Lived) (vs : List Plain) (o : Plain) → AllByRecursion (HoldsObjects n) vs → HoldsObjects n o
    → AllByRecursion (HoldsObjects n) (keys_by vs o)
keys_hold n vs o a h =
    all_flat (HoldsObjects n) (HoldsObjects n) (λ v. keys_for o (captured o v))
    (λ v there. key_holds n o (captured o v) h (observer_captures n o v there)) vs a

pub wants_hold : (n : Lived) (vs : List Plain) → AllByRecursion (HoldsObjects n) vs
    → AllByRecursion (HoldsObjects n) (wants vs)
wants_hold n vs a =
    all_ascending (HoldsObjects n) order _
    (all_flat (HoldsObjects n) (HoldsObjects n) (keys_by vs) (λ o. keys_hold n vs o a) vs a)

-- ---- to whom a message goes

-- an observation holds objects, and so do its captures
abbrev IsFanned : Lived → Fanned → Type 0
IsFanned n f = HoldsObjects n f.observe × AllByRecursion (HoldsObjects n) f.captures

fan_one : (n : Lived) (o : Plain) (q : Option (List Plain)) → HoldsObjects n o → FoundHold n q
    → AllByRecursion (IsFanned n) (fan_for o q)
fan_one n o None h a = tt
fan_one n o (Some cs) h a = ((h, a), tt)

pub fan_holds : (n : Lived) (vs : List Plain) (m : Plain) → AllByRecursion (HoldsObjects n) vs → HoldsObjects n m
    → AllByRecursion (λ f. HoldsObjects n f.observe × AllByRecursion (HoldsObjects n) f.captures) (fan_of vs m)
fan_holds n vs m a h =
    all_flat (HoldsObjects n) (IsFanned n) (λ o. fan_for o (captured o m))
    (λ o there. fan_one n o (captured o m) there (observer_captures n o m h)) (ascending_by order vs)
    (all_ascending (HoldsObjects n) order vs a)
