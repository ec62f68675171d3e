-- The rows of all actors stand in their facets after each turn.
use Rattle.std.proofs.Common.{◌≡◌, ◌≢◌, ℕ, ◌<◌, ◌==◌, ◌&&◌, [], ◌∷◌, Bool, true, false, cond, Option, Some, None}
use Rattle.std.proofs.Common.{is_some, unwrap_or, inl, inr, refl, ap, sym, ◌∙◌, subst, arith}
use Rattle.std.proofs.lemmas.Bool.Decides.{nat_tests}
use Rattle.std.proofs.lemmas.Map.Made.{is_some-lookup}
use Rattle.std.specs.List.{AllByRecursion}
use Rattle.std.specs.Map.{keys_of, values_of}
use Rattle.pv_words.specs.Parts.{same}
use Rattle.ds_space.specs.Changes.{among}
use Rattle.ac_table.specs.declared.batches.Batch.{Batch}
use Rattle.ac_table.specs.Lemmas.Leaves.{other_tree_faceted, other_tree_without}
use Rattle.ac_table.specs.Tables.{TableState, IsTable, is_live, first_batch, popped, tree_of}
use Rattle.ac_world.specs.Behaviours.{Behaviour}
use Rattle.ac_world.specs.Lemmas.Entries.{put_found, put_other}
use Rattle.ac_world.specs.Outboxes.{committed}
use Rattle.ac_world.specs.Turns.{Turning, begin_turn, system_turn, connection_turn, turn_with, turn_first}
use Rattle.ac_world.specs.Turns.{After, turn}
use Rattle.ac_world.specs.declared.turns.Turned.TheVariants as turned
use Rattle.ac_world.specs.Watchers.{watcher_of}
use Rattle.ac_world.specs.Worlds.{WorldState, Resident, resident_of, no_resident, is_system}
use Rattle.ac_world.proofs.Sparing.{IsSpared, all_turned_spared}
use Rattle.hub_laws.specs.Wanting.{IsMet}
use Rattle.hub_laws.proofs.Finding.{found_all, all_from_found}
use Rattle.hub_laws.proofs.Kept.{Moves, IsSound}
use Rattle.hub_laws.proofs.Leaving.{one_or_not}
use Rattle.hub_laws.proofs.Passing.{among_passing}
use Rattle.hub_laws.proofs.Posting.{posted_table, live-popped, table-popped}
use Rattle.hub_laws.proofs.Turns.{without_first, behaves, live_lawful, is_below, turning_of, system_runs, system_turned}
use Rattle.hub_facets.proofs.Dwelling.{Dwells}
use Rattle.hub_facets.proofs.Turning.{AreWanted, Stays, all_turned_stays}
use Rattle.hub_facets.proofs.Worlds.{group_of, groups_are, IsRootRow, DwellsIn, AreAtHome, StaysIn, still_dwells}
use Rattle.hub_facets.proofs.Worlds.{stays_alike, stays_posted, stays_committed}

-- the batch is taken
stays_popped : (a b : ℕ) (t : TableState) → is_live b t ≡ true → StaysIn b t (popped a t)
stays_popped a b t live = stays_alike b t (popped a t) refl refl refl (live-popped a b t ∙ live)

both_true : (a b : Bool) → (a && b) ≡ true → b ≡ true
both_true true b e = e
both_true false b e = absurd cc

-- another's turn leaves an actor's tree
others_spared : (a b : ℕ) → (b == a) ≡ false → IsSpared (tree_of b) a
others_spared a b ne = record {
  rows = record { row_more = λ facet target entity v t. refl; row_less = λ h t. refl };
  facet_more = λ n t. other_tree_faceted a b 0 n t ne;
  facet_less = λ n t. other_tree_without a b (n ∷ []) t ne;
}

-- ---- a system actor's turn

module _ (a : ℕ) (b : Batch) (w : WorldState) (k : IsSound [] w) (s : AreAtHome w) (system : is_system a ≡ true)
    (live : is_live a w.table ≡ true) (first : first_batch a w.table ≡ Some b) where
  abbrev y : Behaviour
  y = behaves a w

  abbrev own : Resident
  own = resident_of a w

  abbrev less : TableState
  less = popped a w.table

  abbrev done : Turning
  done = turning_of a b w

  less_table : IsTable less
  less_table = table-popped a w.table s.table

  -- the keys that are kept are wanted
  begins_wanted : AreWanted y (begin_turn a (without_first a w))
  begins_wanted q h e =
      let met : IsMet y (watcher_of a w.watches) a own w.table.rows = k.met a (is_below a system) live in
      let kept : among q (keys_of own.handles) ≡ true = sym (is_some-lookup (same q) own.handles) ∙ ap is_some e in
      both_true (is_some (y.aim q)) (among q (y.keys (values_of own.got)))
      (sym (among_passing y q (y.keys (values_of own.got))) ∙ ap (among q) (sym met.keys) ∙ kept)

  begins : Stays y a (begin_turn a (without_first a w))
  begins = record {
    lodges =
        subst (λ group. Dwells group a None own.handles own.facets less)
        (sym (groups_are w.schema w.bindings w.watches a))
        (still_dwells (group_of a) a own.handles own.facets w.table less less_table (stays_popped a a w.table live)
        (s.system a (is_below a system) live));
    wanted = begins_wanted;
  }

  ends : Stays y a done
  ends =
      all_turned_stays y a (live_lawful [] a w k (is_below a system) live).ascend b.from b.events
      (begin_turn a (without_first a w)) begins

  moves : Moves a less done.plan
  moves = (system_runs a b w k system live first).moves

  after_table : IsTable (committed a done.plan)
  after_table = (posted_table a done.plan.out done.plan.table).3 ends.lodges.table

  own_dwells : DwellsIn a done.resident (committed a done.plan)
  own_dwells =
      still_dwells (group_of a) a done.resident.handles done.resident.facets done.plan.table (committed a done.plan)
      after_table (stays_posted a a done.plan.out done.plan.table ends.lodges.live)
      (subst (λ group. Dwells group a None done.resident.handles done.resident.facets done.plan.table)
      (groups_are w.schema w.bindings w.watches a) ends.lodges)

  other_tree : (c : ℕ) → c ≢ a → tree_of c done.plan.table ≡ tree_of c less
  other_tree c apart =
      all_turned_spared (tree_of c) a (others_spared a c (grind (arith, nat_tests, apart))) y b.from b.events
      (begin_turn a (without_first a w))

  other_stays : (c : ℕ) → c ≢ a → is_live c w.table ≡ true → StaysIn c less (committed a done.plan)
  other_stays c apart was =
      stays_committed a c less done.plan moves apart (other_tree c apart) (live-popped a c w.table ∙ was)

  other_dwells : (c : ℕ) → c < 17 → c ≢ a → is_live c w.table ≡ true
      → DwellsIn c (resident_of c w) (committed a done.plan)
  other_dwells c low apart was =
      still_dwells (group_of c) c (resident_of c w).handles (resident_of c w).facets less (committed a done.plan)
      after_table (other_stays c apart was)
      (still_dwells (group_of c) c (resident_of c w).handles (resident_of c w).facets w.table less less_table
      (stays_popped a c w.table was) (s.system c low was))

  -- rows of connections are as they were
  root_rows : AllByRecursion IsRootRow done.plan.table.rows
  root_rows =
      all_from_found IsRootRow done.plan.table.rows ends.lodges.table.rows_ascend
      (λ h r found far. elim (moves.old h r found) [
        | inl old ↦ found_all IsRootRow h w.table.rows r s.rows old far
        | inr new ↦ absurd (let low = is_below a system in let owner = new.1 in omega (arith, low, owner, far))
      ])

  was_live : (c : ℕ) → is_live c (committed a done.plan) ≡ true → is_live c w.table ≡ true
  was_live c is = sym ((system_turned a b w k system live first).lives c) ∙ is

  system_at_home : AreAtHome (system_turn a b (without_first a w)).world
  system_at_home = record {
    table = after_table;
    system = λ c low is. elim (one_or_not c a) [
      | inl one ↦
          subst (λ (d : ℕ). DwellsIn d (resident_of d (system_turn a b (without_first a w)).world)
          (committed a done.plan)) (sym one)
          (subst (λ (r : Resident). DwellsIn a r (committed a done.plan))
          (sym (ap (λ o. unwrap_or o no_resident) (put_found a done.resident w.residents))) own_dwells)
      | inr apart ↦
          subst (λ (r : Resident). DwellsIn c r (committed a done.plan))
          (sym (ap (λ o. unwrap_or o no_resident) (put_other a c done.resident w.residents apart)))
          (other_dwells c low apart (was_live c is))
    ];
    roots = λ c far is.
        let apart : c ≢ a = λ one. (let low = is_below a system in absurd (omega (arith, low, far, one))) in
        (other_stays c apart (was_live c is)).tree ∙ s.roots c far (was_live c is);
    rows = subst (AllByRecursion IsRootRow) (sym (posted_table a done.plan.out done.plan.table).0) root_rows;
  }

-- ---- a connection's turn

connection_at_home : (a : ℕ) (b : Batch) (w : WorldState) → AreAtHome w
    → AreAtHome (connection_turn a b (without_first a w)).world
connection_at_home a b w s = record {
  table = table-popped a w.table s.table;
  system = λ c low is.
      let was : is_live c w.table ≡ true = sym (live-popped a c w.table) ∙ is in
      still_dwells (group_of c) c (resident_of c w).handles (resident_of c w).facets w.table (popped a w.table)
      (table-popped a w.table s.table) (stays_popped a c w.table was) (s.system c low was);
  roots = λ c far is. s.roots c far (sym (live-popped a c w.table) ∙ is);
  rows = s.rows;
}

-- ---- whoever it is

with_at_home : (a : ℕ) (b : Batch) (w : WorldState) → IsSound [] w → AreAtHome w → is_live a w.table ≡ true
    → first_batch a w.table ≡ Some b → AreAtHome (turn_with a b (without_first a w)).world
with_at_home a b w k s live first = by (is_system a) refl
  where
    by : (c : Bool) → is_system a ≡ c
        → AreAtHome (cond c (system_turn a b (without_first a w)) (connection_turn a b (without_first a w))).world
    by true system = system_at_home a b w k s system live first
    by false far = connection_at_home a b w s

pub turned_at_home : (a : ℕ) (w : WorldState) → IsSound [] w → AreAtHome w → AreAtHome (turn a w).world
turned_at_home a w k s = by (is_live a w.table) (first_batch a w.table) refl refl
  where
    none : After
    none = record { world = w; turned = turned.Gone }

    by : (c : Bool) (o : Option Batch) → is_live a w.table ≡ c → first_batch a w.table ≡ o
        → AreAtHome (cond c (turn_first a o w) none).world
    by true None live first = s
    by true (Some b) live first = with_at_home a b w k s live first
    by false o live first = s
