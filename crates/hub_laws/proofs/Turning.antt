-- A system actor's turn, event by event: its rows stay those of its wants, also where an assertion is passed over,
-- whose maker is listed to end.
use Rattle.std.proofs.Common.{◌≡◌, ℕ, ◌<◌, ◌≤◌, ◌==◌, List, [], ◌∷◌, ◌++◌, Bool, true, false, Option, Some, None}
use Rattle.std.proofs.Common.{◌⊎◌, inl, inr, refl, ap, sym, subst, arith, ◌∙◌, cond, ◌&&◌, not, nat_le}
use Rattle.std.proofs.Common.{if◌then◌else◌, is_some, Less, ◌||◌, nat_lt}
use Rattle.std.specs.List.{AllByRecursion}
use Rattle.std.specs.List.Sorted.{IsStrictlySortedBy}
use Rattle.std.specs.Map.{keys_of, values_of}
use Rattle.std.specs.Ordering.{nat_cmp}
use Rattle.std.proofs.lemmas.Bool.Decides.{nat_tests}
use Rattle.pv_value.specs.Plain.{Plain}
use Rattle.ds_space.specs.Spaces.{Rows, has_row}
use Rattle.ac_table.specs.declared.batches.Row.{Row}
use Rattle.ac_table.specs.declared.batches.Event.{Event}
use Rattle.ac_table.specs.declared.batches.Event.TheVariants.{Assert, Retract, Message, Sync}
use Rattle.ac_table.specs.Tables.{TableState, IsTable, find_actor, find_row, is_live}
use Rattle.ac_world.specs.declared.spreads.Spread.{Spread}
use Rattle.ac_world.specs.Outboxes.{Plan}
use Rattle.ac_world.specs.Turns.{Turning, is_listed, spread_by, may_end, culprit, by_assertion, by_message, regot}
use Rattle.ac_world.specs.Turns.{spreading, taken_in, turned_by, all_turned}
use Rattle.ac_world.specs.declared.watched.Watched.{Watched}
use Rattle.ac_world.specs.Worlds.{entry_of, with_entry}
use Rattle.ac_world.specs.Lemmas.Entries.{entry_of_with, ascend_with}
use Rattle.ac_world.specs.Behaviours.{Behaviour}
use Rattle.hub_laws.specs.Standing.{took, took_all, value_alone}
use Rattle.hub_laws.specs.Wanting.{IsMet}
use Rattle.hub_laws.proofs.Kept.{made_by, made_in, is_in, IsExcused, IsNear, Reaches, IsGood, IsOwnedBy, IsLawful}
use Rattle.hub_laws.proofs.Kept.{FitsEvent, actors_in, Runs}
use Rattle.hub_laws.proofs.Promised.{TurnRuns}
use Rattle.hub_laws.proofs.Finding.{found_all, found_owner}
use Rattle.hub_laws.proofs.Lists.{near_took}
use Rattle.hub_laws.proofs.Logs.{one_of_all, log_turned_by}
use Rattle.hub_laws.proofs.Meeting.{regot_met}
use Rattle.hub_laws.proofs.Saying.{OnlySays, answer_only, say_all_only}

-- ---- who is listed

listed_is_in : (c : ℕ) (ss : List Spread) → is_in (actors_in ss) c ≡ is_listed c ss
listed_is_in c [] = refl
listed_is_in c (s ∷ ss) = grind (arith, listed_is_in c ss)

in_longer : (c : ℕ) (ss : List Spread) (s : Spread) → is_in (actors_in ss) c ≡ true
    → is_in (actors_in (ss ++ s ∷ [])) c ≡ true
in_longer c [] s is = absurd cc
in_longer c (x ∷ xs) s is = grind (arith, is, in_longer c xs s)

in_last : (ss : List Spread) (s : Spread) → is_in (actors_in (ss ++ s ∷ [])) s.actor ≡ true
in_last [] s = grind (arith, nat_tests)
in_last (x ∷ xs) s = grind (arith, in_last xs s)

all_longer : (P : ℕ → Type 0) (ss : List Spread) (s : Spread) → AllByRecursion P (actors_in ss) → P s.actor
    → AllByRecursion P (actors_in (ss ++ s ∷ []))
all_longer P [] s all p = (p, tt)
all_longer P (x ∷ xs) s all p = (all.0, all_longer P xs s all.1 p)

-- who was listed still is
spread_keeps : (ends : Bool) (from weight c : ℕ) (ss : List Spread) → is_in (actors_in ss) c ≡ true
    → is_in (actors_in (spread_by ends from weight ss)) c ≡ true
spread_keeps ends from weight c ss is = split (ends && not (is_listed from ss))
  where
    split : (b : Bool)
        → is_in (actors_in (if b then ss ++ record { actor = from; weight = weight } ∷ [] else ss)) c ≡ true
    split true = in_longer c ss (record { actor = from; weight = weight }) is
    split false = is

-- who spread is listed, where it ends
spread_lists : (from weight : ℕ) (ss : List Spread) → is_in (actors_in (spread_by true from weight ss)) from ≡ true
spread_lists from weight ss = split (is_listed from ss) refl
  where
    split : (b : Bool) → is_listed from ss ≡ b
        → is_in (actors_in (if not b then ss ++ record { actor = from; weight = weight } ∷ [] else ss)) from ≡ true
    split true is = listed_is_in from ss ∙ is
    split false is = in_last ss (record { actor = from; weight = weight })

spread_all : (P : ℕ → Type 0) (ends : Bool) (from weight : ℕ) (ss : List Spread) → AllByRecursion P (actors_in ss)
    → (ends ≡ true → P from) → AllByRecursion P (actors_in (spread_by ends from weight ss))
spread_all P true from weight ss all p = split (not (is_listed from ss))
  where
    split : (b : Bool)
        → AllByRecursion P (actors_in (if b then ss ++ record { actor = from; weight = weight } ∷ [] else ss))
    split true = all_longer P ss (record { actor = from; weight = weight }) all (p refl)
    split false = all
spread_all P false from weight ss all p = all

-- ---- what is near stays so where more are to end

abbrev pub AreMore : List ℕ → List ℕ → Type 0
AreMore ends more = (c : ℕ) → is_in ends c ≡ true → is_in more c ≡ true

excused_more : (ends more : List ℕ) (r : Option Row) → AreMore ends more → IsExcused ends r → IsExcused more r
excused_more ends more None grow is = tt
excused_more ends more (Some r) grow is = grow r.owner is

pub near_more : {X : Type 0} (ends more : List ℕ) (rows : List Row) (should kept : List (ℕ × X)) → AreMore ends more
    → IsNear ends rows should kept → IsNear more rows should kept
near_more ends more rows should kept grow n = record {
  should_ascends = n.should_ascends;
  kept_ascends = n.kept_ascends;
  near = λ h. elim (n.near h) [
    | inl same ↦ inl same
    | inr none ↦ inr (none.0, excused_more ends more (find_row h rows) grow none.1)
  ];
}

-- an entry that should have come is passed over
near_passed : {X : Type 0} (ends : List ℕ) (rows : List Row) (h : ℕ) (x : X) (should kept : List (ℕ × X))
    → entry_of h kept ≡ None → IsExcused ends (find_row h rows) → IsNear ends rows should kept
    → IsNear ends rows (with_entry h x should) kept
near_passed {X = X} ends rows h x should kept none out n = record {
  should_ascends = ascend_with h x should n.should_ascends;
  kept_ascends = n.kept_ascends;
  near = λ k. rw (entry_of_with k h x should) (split k (h == k) refl);
}
  where
    split : (k : ℕ) (b : Bool) → (h == k) ≡ b
        → (entry_of k kept ≡ cond b (Some x) (entry_of k should))
        ⊎ ((entry_of k kept ≡ None) × IsExcused ends (find_row k rows))
    split k true is =
        let same : h ≡ k = grind (arith, nat_tests, is) in
        inr (subst (λ (j : ℕ). (entry_of j kept ≡ None) × IsExcused ends (find_row j rows)) same (none, out))
    split k false is = n.near k

-- ---- who makes a batch

-- the maker of an assertion that waits for an actor and whose row stands is live, and may end or is a system actor whose
-- row stands at a watcher
maker_live : (a from h : ℕ) (t : TableState) → IsTable t → AllByRecursion IsGood t.rows → (r : Row)
    → find_row h t.rows ≡ Some r → (r.owner ≡ from) × (r.target ≡ a) → (is_live from t ≡ true) × (from < 9 → 9 ≤ a)
maker_live a from h t table good r is own =
    let reaches : Reaches r.owner r.target = found_all IsGood h t.rows r good is in (
      ap (λ c. is_live c t) (sym own.0) ∙ found_owner h t r table is,
      λ low. subst (λ b. 9 ≤ b) own.1 (reaches.far (subst (λ b. b < 9) (sym own.0) low)),
    )

-- what is known throughout the turn of a system actor
record IsSet (y : Behaviour) (a : ℕ) (t : TableState) : Type 0 where
  lawful : IsLawful y a
  table : IsTable t
  lives : is_live a t ≡ true
  good : AllByRecursion IsGood t.rows

abbrev Ends : TableState → ℕ → Type 0
Ends t c = (9 ≤ c) × (is_live c t ≡ true)

live_from_actors : (c : ℕ) (s t : TableState) → s.actors ≡ t.actors → is_live c s ≡ is_live c t
live_from_actors c s t same = ap (λ xs. is_some (find_actor c xs)) same

-- who is listed may end
assertion_ends : (a from weight : ℕ) (t s : TableState) (ss : List Spread) → s.actors ≡ t.actors
    → AllByRecursion (Ends t) (actors_in ss) → AllByRecursion (Ends t) (actors_in (by_assertion s a from weight ss))
assertion_ends a from weight t s ss same all =
    spread_all (Ends t) (may_end (culprit a from) s) (culprit a from) weight ss all ends
  where
    both_hold : (b c : Bool) → (b && c) ≡ true → (b ≡ true) × (c ≡ true)
    both_hold true c is = (refl, is)
    both_hold false c is = absurd cc

    at_least : (c : ℕ) → nat_le 9 c ≡ true → 9 ≤ c
    at_least c is = grind (arith, nat_tests, is)

    ends : may_end (culprit a from) s ≡ true → Ends t (culprit a from)
    ends is =
        let both = both_hold (nat_le 9 (culprit a from)) (is_live (culprit a from) s) is in
        (at_least (culprit a from) both.0, sym (live_from_actors (culprit a from) s t same) ∙ both.1)

message_ends : (from weight : ℕ) (t s : TableState) (ss : List Spread) → s.actors ≡ t.actors
    → AllByRecursion (Ends t) (actors_in ss) → AllByRecursion (Ends t) (actors_in (by_message s from weight ss))
message_ends from weight t s ss same all =
    spread_all (Ends t) (nat_le 17 from && is_live from s) from weight ss all ends
  where
    high : (nat_le 17 from && is_live from s) ≡ true → 9 ≤ from
    high is = let far : 17 ≤ from = grind (arith, nat_tests, is) in omega (arith, far)

    ends : (nat_le 17 from && is_live from s) ≡ true → Ends t from
    ends is = (high is, sym (live_from_actors from s t same) ∙ grind (arith, is))

-- where the one that ends for an assertion is listed
culprit_listed : (a from weight : ℕ) (s : TableState) (ss : List Spread) (c : ℕ) → culprit a from ≡ c → 9 ≤ c
    → is_live c s ≡ true → is_in (actors_in (by_assertion s a from weight ss)) c ≡ true
culprit_listed a from weight s ss c is high live =
    let test : may_end c s ≡ true = ap (λ b. nat_le 9 c && b) live ∙ grind (arith, nat_tests, high) in
    ap (λ d. is_in (actors_in (spread_by (may_end d s) d weight ss)) c) is
    ∙ ap (λ b. is_in (actors_in (spread_by b c weight ss)) c) test ∙ spread_lists c weight ss

-- an assertion that is passed over is excused: its row has gone, or its maker is listed; or the actor itself is
assertion_excused : (y : Behaviour) (a from h weight : ℕ) (t s : TableState) (ss : List Spread) (r : Option Row)
    → IsSet y a t → s.actors ≡ t.actors → find_row h t.rows ≡ r → IsOwnedBy from a r
    → is_in (actors_in (by_assertion s a from weight ss)) a ≡ false
    → IsExcused (actors_in (by_assertion s a from weight ss)) r
assertion_excused y a from h weight t s ss None set same is own stays = tt
assertion_excused y a from h weight t s ss (Some r) set same is own stays =
    ap (is_in (actors_in (by_assertion s a from weight ss))) own.0 ∙ by (nat_le 17 from || nat_lt a 9) refl
  where
    maker : (is_live from t ≡ true) × (from < 9 → 9 ≤ a)
    maker = maker_live a from h t set.table set.good r is own

    may : (nat_le 17 from || nat_lt a 9) ≡ true → 9 ≤ from
    may is = let far : from < 9 → 9 ≤ a = maker.1 in grind (arith, nat_tests, is, far)

    high : (nat_le 17 from || nat_lt a 9) ≡ false → 9 ≤ a
    high is = grind (arith, nat_tests, is)

    by : (b : Bool) → (nat_le 17 from || nat_lt a 9) ≡ b
        → is_in (actors_in (by_assertion s a from weight ss)) from ≡ true
    by true is =
        culprit_listed a from weight s ss from (ap (λ b. cond b from a) is) (may is)
        (live_from_actors from s t same ∙ maker.0)
    by false is =
        let listed : is_in (actors_in (by_assertion s a from weight ss)) a ≡ true =
        culprit_listed a from weight s ss a (ap (λ b. cond b from a) is) (high is)
        (live_from_actors a s t same ∙ set.lives) in
        absurd cc

-- ---- an event that is passed over

with_spreads : (y : Behaviour) (o : Option Watched) (a : ℕ) (t : TableState) (full new : Rows) (u : Turning)
    (change : List Spread → List Spread)
    → (is_in (actors_in (change u.spreads)) a ≡ false
    → IsNear (actors_in (change u.spreads)) t.rows new u.resident.got)
    → AllByRecursion (Ends t) (actors_in (change u.spreads)) → Runs y o a t full u
    → Runs y o a t new (spreading change u)
with_spreads y o a t full new u change near ends r =
    record { moves = r.moves; good = r.good; met = r.met; near = near; ends = ends }

-- who isn't among more isn't among fewer
not_among : (ends more : List ℕ) (a : ℕ) → AreMore ends more → is_in more a ≡ false → is_in ends a ≡ false
not_among ends more a grow none = by (is_in ends a) refl
  where
    by : (b : Bool) → is_in ends a ≡ b → is_in ends a ≡ false
    by false is = is
    by true is = absurd (let there : is_in more a ≡ true = grow a is in cc)

assertion_passed : (y : Behaviour) (o : Option Watched) (a from h entity weight : ℕ) (v : Plain) (t : TableState)
    (full : Rows) (u : Turning) → IsSet y a t → IsOwnedBy from a (find_row h t.rows)
    → entry_of h u.resident.got ≡ None → Runs y o a t full u
    → Runs y o a t (took value_alone (Assert h entity v) full) (spreading (by_assertion u.plan.table a from weight) u)
assertion_passed y o a from h entity weight v t full u set own none r =
    let more : List ℕ = actors_in (by_assertion u.plan.table a from weight u.spreads) in
    let grow : AreMore (actors_in u.spreads) more
    = λ c. spread_keeps (may_end (culprit a from) u.plan.table) (culprit a from) weight c u.spreads in
    with_spreads y o a t full (with_entry h v full) u (by_assertion u.plan.table a from weight)
    (λ stays. near_passed more t.rows h v full u.resident.got none
    (assertion_excused y a from h weight t u.plan.table u.spreads (find_row h t.rows) set r.moves.actors refl own stays)
    (near_more (actors_in u.spreads) more t.rows full u.resident.got grow
    (r.near (not_among (actors_in u.spreads) more a grow stays))))
    (assertion_ends a from weight t u.plan.table u.spreads r.moves.actors r.ends) r

message_passed : (y : Behaviour) (o : Option Watched) (a from weight : ℕ) (t : TableState) (full : Rows) (u : Turning)
    → Runs y o a t full u → Runs y o a t full (spreading (by_message u.plan.table from weight) u)
message_passed y o a from weight t full u r =
    let more : List ℕ = actors_in (by_message u.plan.table from weight u.spreads) in
    let grow : AreMore (actors_in u.spreads) more
    = λ c. spread_keeps (nat_le 17 from && is_live from u.plan.table) from weight c u.spreads in
    with_spreads y o a t full full u (by_message u.plan.table from weight)
    (λ stays. near_more (actors_in u.spreads) more t.rows full u.resident.got grow
    (r.near (not_among (actors_in u.spreads) more a grow stays)))
    (message_ends from weight t u.plan.table u.spreads r.moves.actors r.ends) r

-- ---- an event that changes what the actor has got

regot_runs : (y : Behaviour) (o : Option Watched) (a : ℕ) (t : TableState) (full : Rows) (u : Turning) (e : Event)
    → IsSet y a t → Runs y o a t full u
    → Runs y o a t (took value_alone e full) (regot y a (took value_alone e u.resident.got) u)
regot_runs y o a t full u e set r =
    let rows : Rows = took value_alone e u.resident.got in
    let kept = regot_met y o a set.lawful t u rows set.lives r.moves r.good r.met in
    record {
      moves = kept.0;
      good = kept.1;
      met = kept.2;
      near = rw (kept.3, kept.4) (λ stays. near_took Plain value_alone (actors_in u.spreads) t.rows (e ∷ []) full
          u.resident.got (r.near stays));
      ends = rw kept.4 r.ends;
    }

-- ---- an event that only says

says_runs : (y : Behaviour) (o : Option Watched) (a : ℕ) (t : TableState) (full : Rows) (u : Turning) (p : Plan)
    → OnlySays a t u.plan p → Runs y o a t full u → Runs y o a t full (record u { plan = p })
says_runs y o a t full u p says r = record {
  moves = says.moves;
  good = says.good;
  met = subst (λ (s : TableState). IsMet y o a u.resident s.rows) (sym says.same) r.met;
  near = r.near;
  ends = r.ends;
}

-- ---- each kind of event

either_runs : (y : Behaviour) (o : Option Watched) (a : ℕ) (t : TableState) (full : Rows) (b : Bool) (u w : Turning)
    → Runs y o a t full u → Runs y o a t full w → Runs y o a t full (if b then u else w)
either_runs y o a t full true u w r s = r
either_runs y o a t full false u w r s = s

-- what is got is below what is to come
none_yet : (h : ℕ) (es : Rows) (rest : List ℕ) → IsStrictlySortedBy nat_cmp (keys_of es ++ h ∷ rest)
    → entry_of h es ≡ None
unfolding IsStrictlySortedBy
none_yet h [] rest s = refl
none_yet h (e ∷ es) rest s =
    let lower : nat_cmp e.0 h ≡ Less = one_of_all (λ j. nat_cmp e.0 j ≡ Less) (keys_of es) h rest s.0 in
    grind (arith, nat_tests, lower, none_yet h es rest s.1)

taken_in_runs : (y : Behaviour) (o : Option Watched) (a from h entity : ℕ) (v : Plain) (t : TableState) (full : Rows)
    (u : Turning) → IsSet y a t → FitsEvent t.rows a from (Assert h entity v) → entry_of h u.resident.got ≡ None
    → Runs y o a t full u → Runs y o a t (took value_alone (Assert h entity v) full) (taken_in y a from h v u)
taken_in_runs y o a from h entity v t full u set fits none r =
    let is_new : has_row h u.resident.got ≡ false = ap is_some none in
    rw is_new
    (either_runs y o a t (took value_alone (Assert h entity v) full) _ _ _
    (assertion_passed y o a from h entity _ v t full u set fits.0 none r)
    (regot_runs y o a t full u (Assert h entity v) set r))

turned_by_runs : (y : Behaviour) (o : Option Watched) (a from : ℕ) (t : TableState) (full : Rows) (u : Turning)
    (e : Event) (rest : List ℕ) → IsSet y a t → FitsEvent t.rows a from e
    → IsStrictlySortedBy nat_cmp (keys_of u.resident.got ++ (made_by e ++ rest)) → Runs y o a t full u
    → Runs y o a t (took value_alone e full) (turned_by y a from e u)
turned_by_runs y o a from t full u (Assert h entity v) rest set fits s r =
    taken_in_runs y o a from h entity v t full u set fits (none_yet h u.resident.got rest s) r
turned_by_runs y o a from t full u (Retract h entity) rest set fits s r =
    regot_runs y o a t full u (Retract h entity) set r
turned_by_runs y o a from t full u (Message entity v) rest set fits s r =
    either_runs y o a t full _ _ _ (message_passed y o a from _ t full u r)
    (says_runs y o a t full u _
    (say_all_only y.schema a t u.plan (y.fan (values_of u.resident.got) v) r.moves r.good) r)
turned_by_runs y o a from t full u (Sync entity peer) rest set fits s r =
    says_runs y o a t full u _ (answer_only y.schema a t u.plan peer r.moves r.good) r

all_turned_runs : (y : Behaviour) (o : Option Watched) (a from : ℕ) (t : TableState) (full : Rows) (u : Turning)
    (es : List Event) → IsSet y a t → AllByRecursion (FitsEvent t.rows a from) es
    → IsStrictlySortedBy nat_cmp (keys_of u.resident.got ++ made_in es) → Runs y o a t full u
    → Runs y o a t (took_all value_alone es full) (all_turned y a from es u)
all_turned_runs y o a from t full u [] set fits s r = r
all_turned_runs y o a from t full u (e ∷ es) set fits s r =
    all_turned_runs y o a from t (took value_alone e full) (turned_by y a from e u) es set
    fits.1 (log_turned_by y a from e u (made_in es) s)
    (turned_by_runs y o a from t full u e (made_in es) set fits.0 s r)

pub turn_runs : (y : Behaviour) → TurnRuns y
turn_runs y o a law from t full u es table lives good fits s r =
    all_turned_runs y o a from t full u es (record { lawful = law; table = table; lives = lives; good = good }) fits s r
