-- Where nothing is pending, what a live connection holds is what is captured from scratch.
use Rattle.std.proofs.Common.{◌≡◌, ℕ, ◌<◌, ◌≤◌, List, [], ◌∷◌, ◌++◌, map, Bool, true, false, cond, not, ◌&&◌}
use Rattle.std.proofs.Common.{nat_lt, suc, zero}
use Rattle.std.proofs.Common.{◌==◌, nat_le, length, filter, flat_map, Option, Some, None, is_some, refl, ap, sym, ◌∙◌}
use Rattle.std.proofs.Common.{subst, arith, rules, IsPermutation}
use Rattle.std.specs.List.{AllByRecursion, IsDistinct, list_any}
use Rattle.std.specs.Map.{keys_of, values_of}
use Rattle.std.proofs.lemmas.Bool.Decides.{nat_tests}
use Rattle.std.proofs.lemmas.List.{map-append, nil_from_length}
use Rattle.std.proofs.lemmas.List.Sorted.{IsPermutation-refl, IsPermutation-cons, IsPermutation-sym}
use Rattle.std.proofs.lemmas.List.Sorted.{IsPermutation-trans, IsPermutation-middle, IsPermutation-map}
use Rattle.std.proofs.lemmas.List.Sorted.{IsPermutation-append_left}
use Rattle.std.proofs.lemmas.Map.Keys.{IsDistinct-from_sorted}
use Rattle.pv_value.specs.Plain.{Plain}
use Rattle.pv_value.specs.Order.{order}
use Rattle.pv_words.specs.Parts.{same}
use Rattle.rl_packet.specs.Holding.{holdings_in_order, insert_holding, is_before}
use Rattle.rl_packet.specs.declared.holding.Holding.{Holding}
use Rattle.ps_schema.specs.declared.Definition.{Definition}
use Rattle.ac_table.specs.declared.batches.Row.{Row}
use Rattle.ac_table.specs.declared.batches.Batch.{Batch}
use Rattle.ac_table.specs.Tables.{TableState, Actor, IsTable, find_actor, is_live, waiting_in}
use Rattle.ac_table.specs.Lemmas.Lists.{all_weaker}
use Rattle.ac_world.specs.declared.held.Held.{Held}
use Rattle.ac_world.specs.Worlds.{WorldState, resident_of, held_by, actor_of, is_system}
use Rattle.ac_world.specs.Behaviours.{Behaviour, behaviour_of, other}
use Rattle.rl_ports.specs.Ports.{ExportTable}
use Rattle.hub_machine.specs.State.{State, opening}
use Rattle.hub_machine.specs.Replays.{replay, IsSettled}
use Rattle.hub_machine.specs.declared.steps.Step.{Step}
use Rattle.hub_laws.specs.Laws.{AreAllowed, Holdings, SettledHoldings}
use Rattle.hub_laws.specs.Scratch.{Pair, asserted_at, pair_at, told_over, told_directly, dataspaces, scratch_at}
use Rattle.hub_laws.specs.Scratch.{told_replies}
use Rattle.hub_laws.specs.Scratch.{scratch, exports_of}
use Rattle.hub_laws.specs.Settled.{holding_of, pair_of}
use Rattle.hub_laws.specs.Wanting.{passing, IsMet}
use Rattle.hub_laws.specs.Standing.{stands, took_all, events_of, value_alone, at_object}
use Rattle.hub_laws.proofs.Bags.{map_flat, permutation_flat, filter_alike, filter_filter, by_number}
use Rattle.hub_laws.proofs.Kept.{IsNear, IsServedBy, IsServed, IsSound, IsHub, IsLawful, IsGood}
use Rattle.hub_laws.proofs.Lists.{near_exact, kept_of, entry_of-stands}
use Rattle.hub_laws.proofs.OwnRows.{pair_of_row, own_are_meant}
use Rattle.hub_laws.proofs.Owned.{rows_of_met}
use Rattle.hub_laws.proofs.Told.{goes_to, goes_passing, pair_by, wants_are_told, keys_are_replied}
use Rattle.hub_laws.proofs.Passing.{passing_ascends}
use Rattle.hub_laws.proofs.Wanted.{lawful}
use Rattle.hub_laws.proofs.Watching.{low_is_none, low_has_no_task}

-- ---- where nothing waits, what stands is what was got

-- a live actor is found
found_live : (o : Option Actor) → is_some o ≡ true → (x : Actor) × (o ≡ Some x)
found_live None is = absurd cc
found_live (Some x) is = (x, refl)

-- no batch waits for any actor
pub inbox_empty : (a : ℕ) (xs : List Actor) (x : Actor) → waiting_in xs ≡ 0 → find_actor a xs ≡ Some x → x.inbox ≡ []
inbox_empty a [] x none is = absurd cc
inbox_empty a (y ∷ ys) x none is = by (y.number == a) refl (inbox_empty a ys x (omega arith))
  where
    by : (b : Bool) → (y.number == a) ≡ b → (find_actor a ys ≡ Some x → x.inbox ≡ []) → x.inbox ≡ []
    by true here later =
        let y_is : Some y ≡ Some x = sym (rw here refl) ∙ is in
        let one : y ≡ x = cc in
        nil_from_length x.inbox (ap (λ (z : Actor). length z.inbox) (sym one) ∙ omega arith)
    by false other later = later (rw other at is)

got_stands : {X : Type 0} (f : ℕ → Plain → X) (a : ℕ) (t : TableState) (got : List (ℕ × X)) (inbox : List Batch)
    → IsTable t → inbox ≡ [] → IsServedBy f [] t.rows t.next a got inbox → got ≡ stands f a t.rows
got_stands f a t got inbox k empty served =
    near_exact [] t.rows (stands f a t.rows) got
    (subst (λ (bs : List Batch). IsNear [] t.rows (stands f a t.rows) (took_all f (events_of bs) got)) empty
    (served.near refl))
    (λ h r is. refl) (λ h none. entry_of-stands f a h t.rows k.rows_ascend ∙ ap (kept_of f a) none)

-- ---- what stands, by rows

-- what stands at an actor is made of the rows at it
stands_map : {X Y : Type 0} (f : ℕ → Plain → X) (g : ℕ × X → Y) (h : Row → Y)
    → ((r : Row) → g (r.handle, f r.entity r.value) ≡ h r) → (a : ℕ) (rows : List Row)
    → map g (stands f a rows) ≡ map h (filter (λ r. r.target == a) rows)
stands_map f g h each a [] = refl
stands_map f g h each a (r ∷ rs) = by (r.target == a) refl (stands_map f g h each a rs)
  where
    by : (b : Bool) → (r.target == a) ≡ b → map g (stands f a rs) ≡ map h (filter (λ r. r.target == a) rs)
        → map g (stands f a (r ∷ rs)) ≡ map h (filter (λ r. r.target == a) (r ∷ rs))
    by true here rest = rw here (λ i. each r i ∷ rest i)
    by false other rest = rw other rest

-- n is the number of a connection, which has these exports
abbrev pub pair_held : ExportTable → ℕ → ℕ × Held → Pair
pair_held exports n e = pair_at exports n e.1.entity e.1.value

-- the gatekeeper and the dataspaces
abbrev residents : List ℕ
residents = 0 ∷ dataspaces

-- an owner is one of them or a connection
owner_kind : (o : ℕ) → (9 ≤ o → o < 17 → ⊥) → not (list_any (λ d. o == d) residents) ≡ nat_le 17 o
owner_kind o no_watcher = grind (arith, nat_tests, no_watcher)

-- each stands once among them
residents_apart : IsDistinct (λ c d. c == d) residents
unfolding IsDistinct
residents_apart = search rules

each_resident : (P : ℕ → Type 0) → ((d : ℕ) → d < 9 → P d) → AllByRecursion P residents
each_resident P one = (at 0 refl, (at 1 refl, (at 2 refl, (at 3 refl, (at 4 refl, later)))))
  where
    at : (d : ℕ) → nat_lt d 9 ≡ true → P d
    at d low = one d (grind (arith, nat_tests, low))

    later : AllByRecursion P (5 ∷ 6 ∷ 7 ∷ 8 ∷ [])
    later = (at 5 refl, (at 6 refl, (at 7 refl, (at 8 refl, tt))))

-- none of them owns the row
abbrev is_direct : Row → Bool
is_direct r = not (list_any (λ d. r.owner == d) residents)

low_system : (d : ℕ) → d < 9 → is_system d ≡ true
low_system d low = grind (arith, nat_tests, low)

-- ---- a sound world in which nothing waits

module _ (exports : ExportTable) (w : WorldState) (s : IsSound [] w) (quiet : waiting_in w.table.actors ≡ 0) where
  abbrev rows : List Row
  rows = w.table.rows

  -- a system actor has got the values asserted at it
  got_asserted : (d : ℕ) → d < 9 → is_live d w.table ≡ true
      → values_of (resident_of d w).got ≡ asserted_at d rows
  got_asserted d low live =
      let x = found_live (find_actor d w.table.actors) live in
      ap values_of (got_stands value_alone d w.table (resident_of d w).got x.0.inbox s.table
      (inbox_empty d w.table.actors x.0 quiet x.1)
      (subst (IsServed [] d x.0.inbox w) (low_system d low) (s.served d x.0 x.1)))
      ∙ stands_map value_alone (λ e. e.1) (λ r. r.value) (λ r. refl) d rows

  -- and a connection has got what stands there
  held_stands : (n : ℕ) → is_system (actor_of n) ≡ false → is_live (actor_of n) w.table ≡ true
      → map (pair_held exports n) (held_by (actor_of n) w)
      ≡ map (pair_of_row exports n) (filter (λ r. r.target == actor_of n) rows)
  held_stands n other live =
      let x = found_live (find_actor (actor_of n) w.table.actors) live in
      ap (map (pair_held exports n))
      (got_stands at_object (actor_of n) w.table (held_by (actor_of n) w) x.0.inbox s.table
      (inbox_empty (actor_of n) w.table.actors x.0 quiet x.1)
      (subst (IsServed [] (actor_of n) x.0.inbox w) other (s.served (actor_of n) x.0 x.1)))
      ∙ stands_map at_object (pair_held exports n) (pair_of_row exports n) (λ r. refl) (actor_of n) rows

  abbrev behaves : ℕ → Behaviour
  behaves d = behaviour_of w.schema w.bindings w.watches d

  -- what a system actor tells a connection, from scratch
  abbrev tells : ℕ → ℕ → List Pair
  tells n zero = told_replies w.schema exports n w.bindings (asserted_at 0 rows)
  tells n (suc d) = told_over w.schema exports n (asserted_at (suc d) rows)

  keys_told : (n d : ℕ) → d < 9
      → IsPermutation
      (map (pair_by (behaves d) exports n) (filter (goes_to (behaves d) (actor_of n))
      ((behaves d).keys (asserted_at d rows)))) (tells n d)
  keys_told n zero low = keys_are_replied w.schema exports n w.bindings (asserted_at 0 rows)
  keys_told n (suc d) low =
      subst (λ o. IsPermutation
      (map (pair_by (other w.schema o) exports n) (filter (goes_to (other w.schema o) (actor_of n))
      ((other w.schema o).keys (asserted_at (suc d) rows)))) (tells n (suc d)))
      (sym (low_has_no_task (suc d) w.watches low))
      (wants_are_told w.schema exports n (asserted_at (suc d) rows))

  -- the rows of a system actor at a connection are what it tells it
  actor_tells : (n d : ℕ) → d < 9 → is_live d w.table ≡ true
      → IsPermutation (map (pair_of_row exports n) (filter (λ r. (r.target == actor_of n) && (r.owner == d)) rows))
      (tells n d)
  actor_tells n d low live =
      let y : Behaviour = behaves d in
      let law : IsLawful y d = lawful w.schema w.bindings w.watches d s.watches (omega (arith, low)) in
      let met : IsMet y None d (resident_of d w) rows =
      subst (λ o. IsMet y o d (resident_of d w) rows) (low_is_none d w.watches low)
      (s.met d (omega (arith, low)) live) in
      let wanted : keys_of (resident_of d w).handles ≡ passing y (y.keys (asserted_at d rows)) =
      met.keys ∙ ap (λ vs. passing y (y.keys vs)) (got_asserted d low live) in
      let apart : IsDistinct same (keys_of (resident_of d w).handles) =
      subst (IsDistinct same) (sym wanted)
      (IsDistinct-from_sorted order _ (passing_ascends y _ (law.ascend (asserted_at d rows)))) in
      let meant : filter (goes_to y (actor_of n)) (keys_of (resident_of d w).handles)
      ≡ filter (goes_to y (actor_of n)) (y.keys (asserted_at d rows)) =
      ap (filter (goes_to y (actor_of n))) wanted ∙ goes_passing y (actor_of n) (y.keys (asserted_at d rows)) in
      IsPermutation-trans _ _ _
      (own_are_meant y exports n d (resident_of d w).handles rows s.table.rows_ascend apart
      (rows_of_met y None d (resident_of d w) rows met))
      (subst (λ ks. IsPermutation (map (pair_by y exports n) ks) (tells n d)) (sym meant) (keys_told n d low))

  -- the others there are a connection's, since those of watchers are at dataspaces
  owned_directly : (n : ℕ) → AllByRecursion
      (λ r. ((r.target == actor_of n) && is_direct r) ≡ ((r.target == actor_of n) && nat_le 17 r.owner)) rows
  owned_directly n = all_weaker IsGood _ (λ r good. by r good (nat_le 9 r.owner && nat_lt r.owner 17) refl) rows s.rows
    where
      elsewhere : (t : ℕ) → t < 9 → (t == actor_of n) ≡ false
      elsewhere t l = grind (arith, nat_tests, l)

      watches : (o : ℕ) → (nat_le 9 o && nat_lt o 17) ≡ true → (9 ≤ o) × (o < 17)
      watches o is = (grind (arith, nat_tests, is), grind (arith, nat_tests, is))

      none : (o : ℕ) → (nat_le 9 o && nat_lt o 17) ≡ false → 9 ≤ o → o < 17 → ⊥
      none o is high low = grind (arith, nat_tests, is, high, low)

      by : (r : Row) → IsGood r → (b : Bool) → (nat_le 9 r.owner && nat_lt r.owner 17) ≡ b
          → ((r.target == actor_of n) && is_direct r) ≡ ((r.target == actor_of n) && nat_le 17 r.owner)
      by r good true is =
          let both = watches r.owner is in
          let away : (r.target == actor_of n) ≡ false = elsewhere r.target (good.near both.0 both.1).1 in
          ap (λ c. c && is_direct r) away ∙ sym (ap (λ c. c && nat_le 17 r.owner) away)
      by r good false is = ap (λ c. (r.target == actor_of n) && c) (owner_kind r.owner (none r.owner is))

  -- the pairs of a system actor's rows at a connection
  abbrev pairs_of : ℕ → ℕ → List Pair
  pairs_of n d = map (pair_of_row exports n) (filter (λ r. r.owner == d) (filter (λ r. r.target == actor_of n) rows))

  told_each : (n : ℕ) → IsPermutation (flat_map (pairs_of n) residents) (flat_map (tells n) residents)
  told_each n =
      permutation_flat (pairs_of n) (tells n) residents
      (each_resident (λ d. IsPermutation (pairs_of n d) (tells n d)) one)
    where
      one : (d : ℕ) → d < 9 → IsPermutation (pairs_of n d) (tells n d)
      one d low =
          subst (λ l. IsPermutation (map (pair_of_row exports n) l) (tells n d))
          (sym (filter_filter (λ r. r.owner == d) (λ r. r.target == actor_of n) rows))
          (actor_tells n d low (s.always d low))

  direct : (n : ℕ)
      → map (pair_of_row exports n) (filter is_direct (filter (λ r. r.target == actor_of n) rows))
      ≡ told_directly exports n rows
  direct n =
      ap (map (pair_of_row exports n))
      (filter_filter is_direct (λ r. r.target == actor_of n) rows
      ∙ filter_alike _ _ rows (owned_directly n))

  pub held_scratch : (n : ℕ) → is_system (actor_of n) ≡ false → is_live (actor_of n) w.table ≡ true
      → IsPermutation (map (pair_held exports n) (held_by (actor_of n) w))
      (scratch_at w.schema exports n w.bindings rows)
  held_scratch n other live =
      let here : List Row = filter (λ r. r.target == actor_of n) rows in
      let parts : List Row = flat_map (λ d. filter (λ r. r.owner == d) here) residents in
      let last : List Row = filter is_direct here in
      let joined : map (pair_of_row exports n) (parts ++ last)
      ≡ flat_map (pairs_of n) residents ++ told_directly exports n rows =
      map-append (pair_of_row exports n) parts last
      ∙ (λ i. map_flat (pair_of_row exports n) (λ d. filter (λ r. r.owner == d) here) residents i ++ direct n i) in
      subst (λ l. IsPermutation l (scratch_at w.schema exports n w.bindings rows)) (sym (held_stands n other live))
      (IsPermutation-trans _ _ _
      (IsPermutation-map (pair_of_row exports n) here (parts ++ last)
      (by_number (λ r. r.owner) residents here residents_apart))
      (subst (λ l. IsPermutation l (scratch_at w.schema exports n w.bindings rows)) (sym joined)
      (IsPermutation-append_left (told_directly exports n rows) _ _ (told_each n))))

-- ---- a hub

no_system : (k : ℕ) → 1 ≤ k → is_system (actor_of k) ≡ false
no_system k since = grind (arith, nat_tests, since)

pub scratch_stands : (s : State) → IsHub [] s → IsSettled s → (k : ℕ) → 1 ≤ k → is_live (actor_of k) s.world.table ≡ true
    → IsPermutation (map (pair_held (exports_of k s) k) (held_by (actor_of k) s.world)) (scratch k s)
scratch_stands s hub settled k since live =
    held_scratch (exports_of k s) s.world hub.sound (omega (arith, settled)) k (no_system k since) live

-- ---- in order

inserted : (x : Holding) (ys : List Holding) → IsPermutation (x ∷ ys) (insert_holding x ys)
inserted x [] = IsPermutation-refl (x ∷ [])
inserted x (y ∷ ys) = by (is_before x y) (inserted x ys)
  where
    by : (b : Bool) → IsPermutation (x ∷ ys) (insert_holding x ys)
        → IsPermutation (x ∷ y ∷ ys) (cond b (x ∷ y ∷ ys) (y ∷ insert_holding x ys))
    by true rest = IsPermutation-refl (x ∷ y ∷ ys)
    by false rest =
        IsPermutation-trans (x ∷ y ∷ ys) (y ∷ x ∷ ys) (y ∷ insert_holding x ys)
        (IsPermutation-middle (x ∷ []) y ys) (IsPermutation-cons y (x ∷ ys) (insert_holding x ys) rest)

pub in_order_permutes : (xs : List Holding) → IsPermutation xs (holdings_in_order xs)
in_order_permutes [] = IsPermutation-refl []
in_order_permutes (x ∷ xs) =
    IsPermutation-trans (x ∷ xs) (x ∷ holdings_in_order xs) (insert_holding x (holdings_in_order xs))
    (IsPermutation-cons x xs (holdings_in_order xs) (in_order_permutes xs)) (inserted x (holdings_in_order xs))

pairs_of_holdings : (exports : ExportTable) (n : ℕ) (es : List (ℕ × Held))
    → map pair_of (map (holding_of exports n) es) ≡ map (pair_held exports n) es
pairs_of_holdings exports n [] = refl
pairs_of_holdings exports n (e ∷ es) = ap (λ l. pair_held exports n e ∷ l) (pairs_of_holdings exports n es)

-- ---- a run

pub settled_from : Holdings
    → ((ds : List Definition) (steps : List Step) → AreAllowed (opening ds) steps → IsHub [] (replay ds steps))
    → SettledHoldings
settled_from holdings hubs ds k steps allowed since settled live =
    let a = actor_of k in
    let s = replay ds steps in
    let exports : ExportTable = exports_of k s in
    let got : List Holding = map (holding_of exports k) (held_by a s.world) in
    subst (λ hs. IsPermutation (map pair_of hs) (scratch k s)) (sym (holdings ds k steps allowed live).0)
    (IsPermutation-trans (map pair_of (holdings_in_order got)) (map pair_of got) (scratch k s)
    (IsPermutation-map pair_of (holdings_in_order got) got
    (IsPermutation-sym got (holdings_in_order got) (in_order_permutes got)))
    (subst (λ l. IsPermutation l (scratch k s)) (sym (pairs_of_holdings exports k (held_by a s.world)))
    (scratch_stands s (hubs ds steps allowed) settled k since live)))
