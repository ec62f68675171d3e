-- What a system actor tells a connection from scratch is, as a bag, what is wanted there: one pair for each key.
use Rattle.std.proofs.Common.{◌≡◌, ℕ, List, [], ◌∷◌, ◌++◌, map, Bool, true, false, cond, not, ◌&&◌, ◌||◌, ◌==◌, filter}
use Rattle.std.proofs.Common.{flat_map, Option, Some, None, is_some, option_and_then, refl, ap, sym, ◌∙◌, subst}
use Rattle.std.proofs.Common.{IsPermutation}
use Rattle.std.specs.Cmp.{eq_by_cmp_equiv}
use Rattle.std.specs.List.{AllByRecursion, IsDistinct, list_any}
use Rattle.std.proofs.lemmas.List.Sorted.{IsPermutation-map}
use Rattle.std.proofs.lemmas.Map.Keys.{IsDistinct-cons, IsDistinct-from_sorted}
use Rattle.std.proofs.lemmas.Map.Views.{any-filter_same}
use Rattle.pv_value.specs.Plain.{Plain, sequence, plains}
use Rattle.pv_value.specs.Order.{order}
use Rattle.pv_value.specs.Lemmas.OrderLaws.{order_total}
use Rattle.dp_pattern.specs.Patterns.{Pattern}
use Rattle.pv_words.specs.Lemmas.Same.{same_is, same_self}
use Rattle.pv_words.specs.Parts.{same}
use Rattle.dp_pattern.specs.Matching.{matched}
use Rattle.ds_space.specs.Changes.{among}
use Rattle.ds_space.specs.Wants.{observer_of, captured, key_of, is_key, gives, wants}
use Rattle.ds_space.specs.Lemmas.Keys.{or_false, any_same, any_flat, any_none}
use Rattle.ds_space.specs.Lemmas.Lists.{wants_ascend, among_wants, in_order}
use Rattle.gk_sturdy.specs.declared.bound.Binding.{Binding}
use Rattle.ps_schema.specs.declared.Definition.{Definition}
use Rattle.ac_world.specs.declared.aims.Aim.{Aim}
use Rattle.ac_world.specs.Worlds.{actor_of}
use Rattle.ac_world.specs.Behaviours.{Behaviour, answer_for, asks, dataspace, gatekeeper}
use Rattle.ac_world.specs.Aims.{aim_at, observer_in}
use Rattle.ac_world.specs.Lemmas.Asking.{among_asked}
use Rattle.rl_ports.specs.Ports.{ExportTable}
use Rattle.hub_laws.specs.Wanting.{passing}
use Rattle.hub_laws.specs.Scratch.{Pair, distinct, as_sequence, captures_by, pair_at, pair_aimed, told_by, told_over}
use Rattle.hub_laws.specs.Scratch.{told_replies, told_reply}
use Rattle.hub_laws.proofs.Bags.{map_flat, flat_alike}
use Rattle.hub_laws.proofs.Distinct.{distinct_none, distinct_filter, distinct_map, distinct_flat, same_members}

-- ---- what a key wants, and where

abbrev pub is_at_actor : ℕ → Option Aim → Bool
is_at_actor a None = false
is_at_actor a (Some aim) = aim.at.actor == a

-- whether what the key wants goes to an object of actor a
abbrev pub goes_to : Behaviour → ℕ → Plain → Bool
goes_to y a k = is_at_actor a (y.aim k)

-- what goes to an actor gets through
pub goes_passing : (y : Behaviour) (a : ℕ) (ks : List Plain)
    → filter (goes_to y a) (passing y ks) ≡ filter (goes_to y a) ks
goes_passing y a [] = refl
goes_passing y a (k ∷ ks) = by (y.aim k) refl (goes_passing y a ks)
  where
    by : (o : Option Aim) → y.aim k ≡ o → filter (goes_to y a) (passing y ks) ≡ filter (goes_to y a) ks
        → filter (goes_to y a) (cond (is_some o) (k ∷ passing y ks) (passing y ks))
        ≡ cond (is_at_actor a o) (k ∷ filter (goes_to y a) ks) (filter (goes_to y a) ks)
    by None is rest = rest
    by (Some aim) is rest =
        ap (λ q. cond (is_at_actor a q) (k ∷ filter (goes_to y a) (passing y ks)) (filter (goes_to y a) (passing y ks)))
        is ∙ ap (λ l. cond (aim.at.actor == a) (k ∷ l) l) rest

-- n is the number of a connection, which has these exports
abbrev pub pair_or : ExportTable → ℕ → Plain → Option Aim → Pair
pair_or exports n k None = record { oid = 0; value = k }
pair_or exports n k (Some aim) = pair_at exports n aim.at.entity aim.value

-- what the connection holds by the key
abbrev pub pair_by : Behaviour → ExportTable → ℕ → Plain → Pair
pair_by y exports n k = pair_or exports n k (y.aim k)

-- ---- each value once

distinct_apart : (vs : List Plain) → IsDistinct same (distinct vs)
distinct_apart [] = distinct_none same
distinct_apart (v ∷ vs) =
    IsDistinct-cons same v (filter (λ w. not (same v w)) (distinct vs)) (others (distinct vs))
    (distinct_filter same _ (distinct vs) (distinct_apart vs))
  where
    others : (ws : List Plain) → AllByRecursion (λ w. same v w ≡ false) (filter (λ w. not (same v w)) ws)
    others [] = tt
    others (w ∷ ws) = by (same v w) refl (others ws)
      where
        by : (b : Bool) → same v w ≡ b → AllByRecursion (λ w. same v w ≡ false) (filter (λ w. not (same v w)) ws)
            → AllByRecursion (λ w. same v w ≡ false) (filter (λ w. not (same v w)) (w ∷ ws))
        by true is rest = rw is rest
        by false is rest = rw is (is, rest)

-- a test finds one among them where it finds one among all
distinct_any : (p : Plain → Bool) (vs : List Plain) → list_any p (distinct vs) ≡ list_any p vs
distinct_any p [] = refl
distinct_any p (v ∷ vs) = by (p v) refl (distinct_any p vs)
  where
    apart : p v ≡ false → (w : Plain) → p w ≡ true → (b : Bool) → same v w ≡ b → not b ≡ true
    apart is w passes false e = refl
    apart is w passes true e = let clash : true ≡ false = sym passes ∙ ap p (sym (same_is v w e)) ∙ is in absurd cc

    by : (b : Bool) → p v ≡ b → list_any p (distinct vs) ≡ list_any p vs
        → (p v || list_any p (filter (λ w. not (same v w)) (distinct vs))) ≡ (p v || list_any p vs)
    by true is rest = rw is refl
    by false is rest =
        rw is (any-filter_same p (λ w. not (same v w)) true (λ w found. apart is w found (same v w) refl) (distinct vs)
        ∙ rest)

-- ---- the keys that are told, from scratch

-- the key `[o c]`
abbrev key_with : Plain → Plain → Plain
key_with o c = sequence (plains (o ∷ c ∷ []))

-- whether a list of captures gets through a reference to an object of actor a
abbrev gets_to : List Definition → ℕ → Plain → Plain → Bool
gets_to ds a r c = is_at_actor a (aim_at ds c r)

abbrev keys_told : List Definition → ℕ → List Plain → Plain → Option Plain → Option Pattern → List Plain
keys_told ds a vs o (Some r) (Some p) = map (key_with o) (filter (gets_to ds a r) (distinct (captures_by p vs)))
keys_told ds a vs o (Some r) None = []
keys_told ds a vs o None p = []

abbrev told_of : List Definition → ℕ → List Plain → Plain → List Plain
told_of ds a vs o = keys_told ds a vs o (observer_in o) (observer_of o)

abbrev all_told : List Definition → ℕ → List Plain → List Plain
all_told ds a vs = flat_map (told_of ds a vs) (distinct vs)

-- the keys of these lists of captures are told as the pairs of what gets through
abbrev AreTold : List Definition → ExportTable → ℕ → Plain → Plain → List Plain → Type 0
AreTold ds exports n o r cs =
    map (pair_by (dataspace ds) exports n) (map (key_with o) (filter (gets_to ds (actor_of n) r) cs))
    ≡ flat_map (λ c. pair_aimed exports n (aim_at ds c r)) cs

-- each is told as its pair
pairs_told : (ds : List Definition) (exports : ExportTable) (n : ℕ) (vs : List Plain) (o : Plain)
    → map (pair_by (dataspace ds) exports n) (told_of ds (actor_of n) vs o)
    ≡ told_by ds exports n vs (observer_in o) (observer_of o)
pairs_told ds exports n vs o = by (observer_in o) (observer_of o) refl
  where
    -- the key of a list of captures, where it gets through
    key_pair : (r c : Plain) (aim : Aim) → observer_in o ≡ Some r → aim_at ds c r ≡ Some aim
        → pair_by (dataspace ds) exports n (key_with o c) ≡ pair_at exports n aim.at.entity aim.value
    key_pair r c aim is gets =
        ap (pair_or exports n (key_with o c)) (ap (λ q. option_and_then (aim_at ds c) q) is ∙ gets)

    here : (r c : Plain) (cs : List Plain) (aim : Aim) (b : Bool) → observer_in o ≡ Some r → aim_at ds c r ≡ Some aim
        → AreTold ds exports n o r cs
        → map (pair_by (dataspace ds) exports n) (map (key_with o)
        (cond b (c ∷ filter (gets_to ds (actor_of n) r) cs) (filter (gets_to ds (actor_of n) r) cs)))
        ≡ cond b (pair_at exports n aim.at.entity aim.value ∷ []) []
        ++ flat_map (λ c. pair_aimed exports n (aim_at ds c r)) cs
    here r c cs aim true is gets rest = λ i. key_pair r c aim is gets i ∷ rest i
    here r c cs aim false is gets rest = rest

    aimed : (r c : Plain) (cs : List Plain) (q : Option Aim) → observer_in o ≡ Some r → aim_at ds c r ≡ q
        → AreTold ds exports n o r cs
        → map (pair_by (dataspace ds) exports n) (map (key_with o)
        (cond (is_at_actor (actor_of n) q) (c ∷ filter (gets_to ds (actor_of n) r) cs)
        (filter (gets_to ds (actor_of n) r) cs)))
        ≡ pair_aimed exports n q ++ flat_map (λ c. pair_aimed exports n (aim_at ds c r)) cs
    aimed r c cs None is gets rest = rest
    aimed r c cs (Some aim) is gets rest = here r c cs aim (aim.at.actor == actor_of n) is gets rest

    each : (r : Plain) (cs : List Plain) → observer_in o ≡ Some r → AreTold ds exports n o r cs
    each r [] is = refl
    each r (c ∷ cs) is = aimed r c cs (aim_at ds c r) is refl (each r cs is)

    by : (r : Option Plain) (p : Option Pattern) → observer_in o ≡ r
        → map (pair_by (dataspace ds) exports n) (keys_told ds (actor_of n) vs o r p) ≡ told_by ds exports n vs r p
    by None p is = refl
    by (Some r) None is = refl
    by (Some r) (Some p) is = each r (distinct (captures_by p vs)) is

-- none is told twice
told_apart : (ds : List Definition) (a : ℕ) (vs : List Plain) → IsDistinct same (all_told ds a vs)
told_apart ds a vs =
    distinct_flat same same (eq_by_cmp_equiv order_total) (told_of ds a vs)
    (λ o. parts o (observer_in o) (observer_of o))
    (λ o q k in_o in_q. one_observation o q k (names o k (observer_in o) (observer_of o) in_o)
    (names q k (observer_in q) (observer_of q) in_q))
    (distinct vs) (distinct_apart vs)
  where
    other_key : (o c d : Plain) → same c d ≡ false → (b : Bool) → same (key_with o c) (key_with o d) ≡ b → b ≡ false
    other_key o c d other false is = refl
    other_key o c d other true is =
        let keys : key_with o c ≡ key_with o d = same_is (key_with o c) (key_with o d) is in
        let one : c ≡ d = cc in
        let yes : same c d ≡ true = subst (λ z. same c z ≡ true) one (same_self c) in
        absurd cc

    parts : (o : Plain) (r : Option Plain) (p : Option Pattern) → IsDistinct same (keys_told ds a vs o r p)
    parts o None p = distinct_none same
    parts o (Some r) None = distinct_none same
    parts o (Some r) (Some p) =
        distinct_map same same (key_with o) (λ c d other. other_key o c d other _ refl)
        (filter (gets_to ds a r) (distinct (captures_by p vs)))
        (distinct_filter same (gets_to ds a r) (distinct (captures_by p vs)) (distinct_apart (captures_by p vs)))

    some_key : (o k : Plain) (cs : List Plain) → among k (map (key_with o) cs) ≡ true
        → (c : Plain) × (k ≡ key_with o c)
    some_key o k [] is = absurd cc
    some_key o k (c ∷ cs) is = by (same k (key_with o c)) refl is (some_key o k cs)
      where
        by : (b : Bool) → same k (key_with o c) ≡ b → (b || among k (map (key_with o) cs)) ≡ true
            → (among k (map (key_with o) cs) ≡ true → (c : Plain) × (k ≡ key_with o c))
            → (c : Plain) × (k ≡ key_with o c)
        by true here is later = (c, same_is k (key_with o c) here)
        by false here is later = later is

    names : (o k : Plain) (r : Option Plain) (p : Option Pattern) → among k (keys_told ds a vs o r p) ≡ true
        → (c : Plain) × (k ≡ key_with o c)
    names o k None p is = absurd cc
    names o k (Some r) None is = absurd cc
    names o k (Some r) (Some p) is = some_key o k (filter (gets_to ds a r) (distinct (captures_by p vs))) is

    one_observation : (o q k : Plain) → (c : Plain) × (k ≡ key_with o c) → (c : Plain) × (k ≡ key_with q c)
        → same o q ≡ true
    one_observation o q k c d =
        let keys : key_with o c.0 ≡ key_with q d.0 = sym c.1 ∙ d.1 in
        let one : o ≡ q = cc in
        subst (λ z. same o z ≡ true) one (same_self o)

-- ---- they are those that are wanted at the actor

and_false : (b : Bool) → (b && false) ≡ false
and_false true = refl
and_false false = refl

-- a key that is given by what observes nothing goes nowhere
goes_nowhere : (ds : List Definition) (a : ℕ) (k o : Plain) (found : Option (List Plain)) → observer_in o ≡ None
    → (goes_to (dataspace ds) a k && is_key k o found) ≡ false
goes_nowhere ds a k o None none = and_false (goes_to (dataspace ds) a k)
goes_nowhere ds a k o (Some cs) none = by (same k (key_of o cs)) refl
  where
    by : (b : Bool) → same k (key_of o cs) ≡ b → (goes_to (dataspace ds) a k && b) ≡ false
    by true is =
        ap (λ z. goes_to (dataspace ds) a z && true) (same_is k (key_of o cs) is)
        ∙ ap (λ q. is_at_actor a (option_and_then (aim_at ds (sequence (plains cs))) q) && true) none
    by false is = and_false (goes_to (dataspace ds) a k)

-- of an observation's keys those are told that go to the actor
told_keys : (ds : List Definition) (a : ℕ) (o r : Plain) (cs : List Plain) → observer_in o ≡ Some r
    → map (key_with o) (filter (gets_to ds a r) cs) ≡ filter (goes_to (dataspace ds) a) (map (key_with o) cs)
told_keys ds a o r [] is = refl
told_keys ds a o r (c ∷ cs) is = by (gets_to ds a r c) goes (told_keys ds a o r cs is)
  where
    goes : goes_to (dataspace ds) a (key_with o c) ≡ gets_to ds a r c
    goes = ap (λ q. is_at_actor a (option_and_then (aim_at ds c) q)) is

    by : (b : Bool) → goes_to (dataspace ds) a (key_with o c) ≡ b
        → map (key_with o) (filter (gets_to ds a r) cs) ≡ filter (goes_to (dataspace ds) a) (map (key_with o) cs)
        → map (key_with o) (cond b (c ∷ filter (gets_to ds a r) cs) (filter (gets_to ds a r) cs))
        ≡ filter (goes_to (dataspace ds) a) (key_with o c ∷ map (key_with o) cs)
    by true here rest = rw here (ap (λ l. key_with o c ∷ l) rest)
    by false here rest = rw here rest

any_and : {X : Type 0} (b : Bool) (p : X → Bool) (xs : List X) → list_any (λ x. b && p x) xs ≡ (b && list_any p xs)
any_and true p xs = refl
any_and false p xs = any_none _ xs (λ x. refl)

pub any_map : {X Y : Type 0} (p : Y → Bool) (f : X → Y) (xs : List X)
    → list_any p (map f xs) ≡ list_any (λ x. p (f x)) xs
any_map p f [] = refl
any_map p f (x ∷ xs) = ap (λ b. p (f x) || b) (any_map p f xs)

-- what an observation's pattern captures gives the keys
captures_give : (vs : List Plain) (o k : Plain) (p : Pattern) → observer_of o ≡ Some p
    → among k (map (key_with o) (distinct (captures_by p vs))) ≡ list_any (gives k o) vs
captures_give vs o k p is =
    any_map (same k) (key_with o) (distinct (captures_by p vs))
    ∙ distinct_any (λ c. same k (key_with o c)) (captures_by p vs)
    ∙ any_flat (λ c. same k (key_with o c)) (λ v. as_sequence (matched p v)) vs
    ∙ any_same _ (gives k o) vs
    (λ v. one (matched p v) ∙ ap (λ (q : Option Pattern). is_key k o (option_and_then (λ p. matched p v) q)) (sym is))
  where
    one : (found : Option (List Plain))
        → list_any (λ c. same k (key_with o c)) (as_sequence found) ≡ is_key k o found
    one None = refl
    one (Some cs) = or_false (same k (key_of o cs))

told_where : (ds : List Definition) (a : ℕ) (vs : List Plain) (o k : Plain)
    → among k (told_of ds a vs o) ≡ (goes_to (dataspace ds) a k && list_any (gives k o) vs)
told_where ds a vs o k = by (observer_in o) (observer_of o) refl refl
  where
    none : observer_of o ≡ None → list_any (gives k o) vs ≡ false
    none is =
        any_none (gives k o) vs
        (λ v. ap (λ (q : Option Pattern). is_key k o (option_and_then (λ p. matched p v) q)) is)

    by : (r : Option Plain) (p : Option Pattern) → observer_in o ≡ r → observer_of o ≡ p
        → among k (keys_told ds a vs o r p) ≡ (goes_to (dataspace ds) a k && list_any (gives k o) vs)
    by None p nobody is =
        sym (sym (any_and (goes_to (dataspace ds) a k) (gives k o) vs)
        ∙ any_none _ vs (λ v. goes_nowhere ds a k o (captured o v) nobody))
    by (Some r) None there is =
        sym (ap (λ b. goes_to (dataspace ds) a k && b) (none is) ∙ and_false (goes_to (dataspace ds) a k))
    by (Some r) (Some p) there is =
        ap (among k) (told_keys ds a o r (distinct (captures_by p vs)) there)
        ∙ any-filter_same (same k) (goes_to (dataspace ds) a) (goes_to (dataspace ds) a k)
        (λ q e. ap (goes_to (dataspace ds) a) (sym (same_is k q e)))
        (map (key_with o) (distinct (captures_by p vs)))
        ∙ ap (λ b. goes_to (dataspace ds) a k && b) (captures_give vs o k p is)

-- the keys that are wanted at the actor are those that are told
told_wanted : (ds : List Definition) (a : ℕ) (vs : List Plain) (k : Plain)
    → among k (filter (goes_to (dataspace ds) a) (wants vs)) ≡ among k (all_told ds a vs)
told_wanted ds a vs k =
    any-filter_same (same k) (goes_to (dataspace ds) a) (goes_to (dataspace ds) a k)
    (λ q e. ap (goes_to (dataspace ds) a) (sym (same_is k q e))) (wants vs)
    ∙ ap (λ b. goes_to (dataspace ds) a k && b) (among_wants k vs)
    ∙ sym (any_flat (same k) (told_of ds a vs) (distinct vs)
    ∙ distinct_any (λ o. among k (told_of ds a vs o)) vs
    ∙ any_same _ _ vs (λ o. told_where ds a vs o k)
    ∙ any_and (goes_to (dataspace ds) a k) (λ o. list_any (gives k o) vs) vs)

pub wants_are_told : (ds : List Definition) (exports : ExportTable) (n : ℕ) (vs : List Plain)
    → IsPermutation (map (pair_by (dataspace ds) exports n) (filter (goes_to (dataspace ds) (actor_of n)) (wants vs)))
    (told_over ds exports n vs)
wants_are_told ds exports n vs =
    subst (IsPermutation (map (pair_by (dataspace ds) exports n) (filter (goes_to (dataspace ds) (actor_of n))
    (wants vs))))
    (map_flat (pair_by (dataspace ds) exports n) (told_of ds (actor_of n) vs) (distinct vs)
    ∙ flat_alike _ _ (distinct vs) (each (distinct vs)))
    (IsPermutation-map (pair_by (dataspace ds) exports n) (filter (goes_to (dataspace ds) (actor_of n)) (wants vs))
    (all_told ds (actor_of n) vs)
    (same_members same (eq_by_cmp_equiv order_total) same_is (filter (goes_to (dataspace ds) (actor_of n)) (wants vs))
    (all_told ds (actor_of n) vs)
    (distinct_filter same (goes_to (dataspace ds) (actor_of n)) (wants vs)
    (IsDistinct-from_sorted order (wants vs) (wants_ascend vs)))
    (told_apart ds (actor_of n) vs) (told_wanted ds (actor_of n) vs)))
  where
    each : (os : List Plain)
        → AllByRecursion
        (λ o. map (pair_by (dataspace ds) exports n) (told_of ds (actor_of n) vs o)
        ≡ told_by ds exports n vs (observer_in o) (observer_of o)) os
    each [] = tt
    each (o ∷ os) = (pairs_told ds exports n vs o, each os)

-- ---- what the gatekeeper replies

module _ (ds : List Definition) (exports : ExportTable) (n : ℕ) (bs : List Binding) where
  abbrev to_here : Plain → Bool
  to_here k = goes_to (gatekeeper ds bs) (actor_of n) k

  -- of the distinct values those that ask and whose reply goes to the connection
  abbrev replied : List Plain → List Plain
  replied vs = filter to_here (filter asks vs)

  reply_pairs : (vs : List Plain)
      → map (pair_by (gatekeeper ds bs) exports n) (replied vs) ≡ flat_map (told_reply ds exports n bs) vs
  reply_pairs [] = refl
  reply_pairs (v ∷ vs) = by (asks v) (answer_for ds bs v) refl (reply_pairs vs)
    where
      here : (aim : Aim) (c : Bool) → answer_for ds bs v ≡ Some aim
          → map (pair_by (gatekeeper ds bs) exports n) (replied vs) ≡ flat_map (told_reply ds exports n bs) vs
          → map (pair_by (gatekeeper ds bs) exports n) (cond c (v ∷ replied vs) (replied vs))
          ≡ cond c (pair_at exports n aim.at.entity aim.value ∷ []) [] ++ flat_map (told_reply ds exports n bs) vs
      here aim true is rest = λ i. pair_or exports n v (is i) ∷ rest i
      here aim false is rest = rest

      by : (b : Bool) (o : Option Aim) → answer_for ds bs v ≡ o
          → map (pair_by (gatekeeper ds bs) exports n) (replied vs) ≡ flat_map (told_reply ds exports n bs) vs
          → map (pair_by (gatekeeper ds bs) exports n) (filter to_here (cond b (v ∷ filter asks vs) (filter asks vs)))
          ≡ cond b (pair_aimed exports n (answer_for ds bs v)) [] ++ flat_map (told_reply ds exports n bs) vs
      by false o is rest = rest
      by true None is rest = rw is rest
      by true (Some aim) is rest = rw is (here aim (aim.at.actor == actor_of n) is rest)

  pub keys_are_replied : (vs : List Plain)
      → IsPermutation
      (map (pair_by (gatekeeper ds bs) exports n) (filter to_here ((gatekeeper ds bs).keys vs)))
      (told_replies ds exports n bs vs)
  keys_are_replied vs =
      subst (IsPermutation (map (pair_by (gatekeeper ds bs) exports n) (filter to_here ((gatekeeper ds bs).keys vs))))
      (reply_pairs (distinct vs))
      (IsPermutation-map (pair_by (gatekeeper ds bs) exports n) (filter to_here ((gatekeeper ds bs).keys vs))
      (replied (distinct vs))
      (same_members same (eq_by_cmp_equiv order_total) same_is (filter to_here ((gatekeeper ds bs).keys vs))
      (replied (distinct vs))
      (distinct_filter same to_here ((gatekeeper ds bs).keys vs)
      (IsDistinct-from_sorted order ((gatekeeper ds bs).keys vs) (in_order (filter asks vs))))
      (distinct_filter same to_here (filter asks (distinct vs))
      (distinct_filter same asks (distinct vs) (distinct_apart vs)))
      members))
    where
      picks : (p : Plain → Bool) (k : Plain) (ks : List Plain) → among k (filter p ks) ≡ (p k && among k ks)
      picks p k ks = any-filter_same (same k) p (p k) (λ q e. ap p (sym (same_is k q e))) ks

      members : (k : Plain)
          → among k (filter to_here ((gatekeeper ds bs).keys vs)) ≡ among k (replied (distinct vs))
      members k =
          picks to_here k ((gatekeeper ds bs).keys vs) ∙ ap (λ b. to_here k && b) (among_asked k vs)
          ∙ sym (picks to_here k (filter asks (distinct vs))
          ∙ ap (λ b. to_here k && b) (picks asks k (distinct vs)
          ∙ ap (λ b. asks k && b) (distinct_any (same k) vs)))
