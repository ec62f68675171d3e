-- The rows of all actors stand in their facets as the world begins, as an actor comes, and as a connection does
-- something.
use Rattle.std.proofs.Common.{◌≡◌, ◌≢◌, ℕ, zero, suc, ◌+◌, ◌<◌, ◌≤◌, ◌==◌, ◌||◌, List, [], ◌∷◌, Bool, true, false}
use Rattle.std.proofs.Common.{cond, not, Option, Some, None, is_some, unwrap_or, inl, inr, refl, ap, sym, ◌∙◌, subst}
use Rattle.std.proofs.Common.{arith}
use Rattle.std.proofs.lemmas.Bool.Decides.{nat_tests}
use Rattle.std.specs.BTreeMap.{is_at}
use Rattle.std.specs.List.{AllByRecursion}
use Rattle.std.specs.Ordering.{nat_cmp}
use Rattle.pv_value.specs.Plain.{Plain}
use Rattle.gk_sturdy.specs.declared.bound.Binding.{Binding}
use Rattle.ps_schema.specs.declared.Definition.{Definition}
use Rattle.ac_table.specs.declared.batches.Row.{Row}
use Rattle.ac_table.specs.Facets.{root_alone}
use Rattle.ac_table.specs.Lemmas.Leaves.{tree_joined, other_tree_joined, flat_alone}
use Rattle.ac_table.specs.Lemmas.Lists.{all_filter}
use Rattle.ac_table.specs.Tables.{TableState, IsTable, find_row, is_live, tree_of, joined}
use Rattle.ac_watch.specs.Lemmas.Alone.{ascend_nothing}
use Rattle.ac_world.specs.declared.acts.Act.{Act}
use Rattle.ac_world.specs.declared.acts.Act.TheVariants as act
use Rattle.ac_world.specs.declared.watched.Watched.{Watched}
use Rattle.ac_world.specs.Lemmas.Entries.{all_append, ascend_none, ascend_cons}
use Rattle.ac_world.specs.Outboxes.{Plan, plan_over, put, drop_row, drop_own, acted, all_acted, committed}
use Rattle.ac_world.specs.Watchers.{next_watcher, observation_by}
use Rattle.ac_world.specs.Worlds.{WorldState, Resident, resident_of, no_resident, actor_of, first_actors, beginning}
use Rattle.ac_world.specs.Worlds.{binding, arrived, sent, watching}
use Rattle.ac_world.proofs.Lives.{tree-posted, tree-all_acted}
use Rattle.hub_laws.proofs.Beginning.{MayBegin, nobody_yet}
use Rattle.hub_laws.proofs.Committing.{live_done}
use Rattle.hub_laws.proofs.Finding.{row_next, found_owner, find_row-asserted}
use Rattle.hub_laws.proofs.FirstActors.{first_dead, first_table}
use Rattle.hub_laws.proofs.Good.{begin_good}
use Rattle.hub_laws.proofs.Joining.{above_is_new, joined_is_table, joined_live, joined_live_other}
use Rattle.hub_laws.proofs.Kept.{Moves, IsSound}
use Rattle.hub_laws.proofs.Leaving.{one_or_not}
use Rattle.hub_laws.proofs.Moving.{begin_moves, put_moves}
use Rattle.hub_laws.proofs.Packets.{IsPlanOf, all_acted_plan}
use Rattle.hub_laws.proofs.Posting.{posted_table}
use Rattle.hub_facets.proofs.Dwelling.{Dwells, AreBuilt, given}
use Rattle.hub_facets.proofs.Listed.{at_is}
use Rattle.hub_facets.proofs.Worlds.{group_of, IsRootRow, DwellsIn, AreAtHome, StaysIn, still_dwells, stays_alike}
use Rattle.hub_facets.proofs.Worlds.{stays_posted, stays_committed}

-- ---- an actor with facet 0 alone, and no key

built_alone : AreBuilt [] root_alone
built_alone = record {
  rooted = record { root = refl; flat = flat_alone };
  ascends = ascend_cons 0 [] tt ascend_none;
  known = λ f. by (is_at (nat_cmp f) 0) ∙ ap (λ b. b || false) (at_is f 0);
  own_facets = record { there = tt; apart = tt };
}
  where
    by : (b : Bool) → is_some (cond {A = Option ℕ} b (Some 0) None) ≡ (b || false)
    by true = refl
    by false = refl

dwells_alone : (group : Plain → Option Plain) (a : ℕ) (t : TableState) → IsTable t → is_live a t ≡ true
    → tree_of a t ≡ root_alone → ((h : ℕ) (r : Row) → find_row h t.rows ≡ Some r → r.owner ≡ a → r.facet ≡ 0)
    → Dwells group a None [] [] t
dwells_alone group a t k live alone first = record {
  table = k;
  live = live;
  handles_ascend = ascend_nothing;
  facets_ascend = ascend_nothing;
  below = λ q h e. absurd cc;
  own = λ q h r e found. absurd cc;
  home = λ q h r e found. absurd cc;
  others = λ h r found owner. inr (first h r found owner);
  built = subst (AreBuilt []) (sym alone) built_alone;
  lived_in = λ f is. absurd cc;
}

-- ---- the beginning

first_alone : (n a : ℕ) → is_live a (first_actors n) ≡ true → tree_of a (first_actors n) ≡ root_alone
first_alone zero a live = absurd cc
first_alone (suc n) a live = elim (one_or_not a n) [
  | inl same ↦ ap (λ b. tree_of b (joined n (first_actors n))) same ∙ tree_joined n (first_actors n)
  | inr apart ↦
      other_tree_joined n a (first_actors n) (grind (arith, nat_tests, apart))
      ∙ first_alone n a (sym (joined_live_other n a (first_actors n) apart) ∙ live)
]

nobody_got : (ds : List Definition) (a : ℕ) → resident_of a (beginning ds) ≡ no_resident
nobody_got ds a = by (is_at (nat_cmp a) 0)
  where
    by : (b : Bool) → unwrap_or (cond {A = Option Resident} b (Some no_resident) None) no_resident ≡ no_resident
    by true = refl
    by false = refl

pub beginning_at_home : (ds : List Definition) → AreAtHome (beginning ds)
beginning_at_home ds = record {
  table = first_table 9;
  system = λ a low live.
      subst (λ (r : Resident). DwellsIn a r (first_actors 9)) (sym (nobody_got ds a))
      (dwells_alone (group_of a) a (first_actors 9) (first_table 9) live (first_alone 9 a live)
      (λ h r found owner. absurd cc));
  roots = λ a far live.
      absurd (let dead : is_live a (first_actors 9) ≡ false = first_dead 9 a (omega (arith, far)) in cc);
  rows = tt;
}

-- ---- a reference is bound

pub bound_at_home : (b : Binding) (w : WorldState) → AreAtHome w → AreAtHome (binding b w)
bound_at_home b w s = record { table = s.table; system = s.system; roots = s.roots; rows = s.rows }

-- ---- an actor comes

apart_is : (b a : ℕ) → b ≢ a → (b == a) ≡ false
apart_is b a apart = grind (arith, nat_tests, apart)

stays_joined : (a b : ℕ) (t : TableState) → b ≢ a → is_live b t ≡ true → StaysIn b t (joined a t)
stays_joined a b t apart live =
    stays_alike b t (joined a t) refl refl (other_tree_joined a b t (apart_is b a apart))
    (joined_live_other a b t apart ∙ live)

pub arrived_at_home : (w : WorldState) → IsSound [] w → AreAtHome w → AreAtHome (arrived w)
arrived_at_home w k s = record {
  table = table;
  system = λ b low live.
      let apart : b ≢ new = λ same. absurd (omega (arith, low, same)) in
      let was : is_live b w.table ≡ true = sym (joined_live_other new b w.table apart) ∙ live in
      still_dwells (group_of b) b (resident_of b w).handles (resident_of b w).facets w.table (joined new w.table) table
      (stays_joined new b w.table apart was) (s.system b low was);
  roots = λ b far live. elim (one_or_not b new) [
    | inl same ↦ ap (λ c. tree_of c (joined new w.table)) same ∙ tree_joined new w.table
    | inr apart ↦
        other_tree_joined new b w.table (apart_is b new apart)
        ∙ s.roots b far (sym (joined_live_other new b w.table apart) ∙ live)
  ];
  rows = s.rows;
}
  where
    new : ℕ
    new = actor_of (w.opened + 1)

    table : IsTable (joined new w.table)
    table =
        joined_is_table new w.table (above_is_new new w.table (λ b live. omega (arith, k.numbers b live))) s.table

-- ---- a connection does something

acted_roots : (a : ℕ) (x : Act) (p : Plan) → AllByRecursion IsRootRow p.table.rows
    → AllByRecursion IsRootRow (acted a x p).table.rows
acted_roots a (act.Assert target entity v) p all = all_append IsRootRow p.table.rows _ all ((λ far. refl), tt)
acted_roots a (act.Retract h) p all = by (find_row h p.table.rows)
  where
    owned : (r : Row) (b : Bool) → AllByRecursion IsRootRow (cond b (drop_row r p) p).table.rows
    owned r true =
        all_filter IsRootRow IsRootRow (λ q. not (q.handle == r.handle)) (λ q passed root. root) p.table.rows all
    owned r false = all

    by : (o : Option Row) → AllByRecursion IsRootRow (drop_own a o p).table.rows
    by None = all
    by (Some r) = owned r (r.owner == a)
acted_roots a (act.Message target entity v) p all = all
acted_roots a (act.Sync target entity peer) p all = all

all_acted_roots : (a : ℕ) (xs : List Act) (p : Plan) → AllByRecursion IsRootRow p.table.rows
    → AllByRecursion IsRootRow (all_acted a xs p).table.rows
all_acted_roots a [] p all = all
all_acted_roots a (x ∷ xs) p all = all_acted_roots a xs (acted a x p) (acted_roots a x p all)

pub sent_at_home : (a : ℕ) (xs : List Act) (w : WorldState) → 17 ≤ a → is_live a w.table ≡ true → IsSound [] w
    → AreAtHome w → AreAtHome (sent a xs w)
sent_at_home a xs w far lives k s = record {
  table = table;
  system = λ b low live.
      let apart : b ≢ a = λ same. absurd (omega (arith, low, far, same)) in
      let was : is_live b w.table ≡ true = sym (live_done posted_table w a b p plan.moves) ∙ live in
      still_dwells (group_of b) b (resident_of b w).handles (resident_of b w).facets w.table (committed a p) table
      (stays_committed a b w.table p plan.moves apart (tree-all_acted b a xs (plan_over w.table)) was)
      (s.system b low was);
  roots = λ b high live.
      tree-posted b a p.out p.table ∙ tree-all_acted b a xs (plan_over w.table)
      ∙ s.roots b high (sym (live_done posted_table w a b p plan.moves) ∙ live);
  rows =
      subst (AllByRecursion IsRootRow) (sym (posted_table a p.out p.table).0)
      (all_acted_roots a xs (plan_over w.table) s.rows);
}
  where
    p : Plan
    p = all_acted a xs (plan_over w.table)

    plan : IsPlanOf a w.table p
    plan =
        all_acted_plan a w.table (plan_over w.table) xs far lives
        (record { moves = begin_moves a w.table s.table; good = begin_good a w.table k.rows })

    table : IsTable (committed a p)
    table = (posted_table a p.out p.table).3 plan.moves.table

-- ---- a watcher begins

module _ (x : Watched) (w : WorldState) (k : IsSound [] w) (may : MayBegin x w) (s : AreAtHome w) where
  abbrev new : ℕ
  new = next_watcher w.watches

  abbrev said : Plain
  said = observation_by new x.pattern

  abbrev here : TableState
  here = joined new w.table

  abbrev plan : Plan
  plan = put new 0 x.from 0 said (plan_over here)

  is_new : is_live new w.table ≡ false
  is_new = nobody_yet x w k may

  is_there : is_live new here ≡ true
  is_there = joined_live new w.table is_new

  here_table : IsTable here
  here_table = joined_is_table new w.table is_new s.table

  moves : Moves new here plan
  moves = put_moves new here (plan_over here) (begin_moves new here here_table) is_there 0 x.from 0 said

  table : IsTable (committed new plan)
  table = (posted_table new plan.out plan.table).3 moves.table

  live_before : (b : ℕ) → b ≢ new → is_live b (committed new plan) ≡ true → is_live b w.table ≡ true
  live_before b apart live =
      sym (joined_live_other new b w.table apart)
      ∙ sym (live_done posted_table (record w { table = here }) new b plan moves) ∙ live

  old_dwells : (b : ℕ) → b < 17 → b ≢ new → is_live b w.table ≡ true
      → DwellsIn b (resident_of b w) (committed new plan)
  old_dwells b low apart was =
      let joint = stays_joined new b w.table apart was in
      still_dwells (group_of b) b (resident_of b w).handles (resident_of b w).facets here (committed new plan) table
      (stays_committed new b here plan moves apart refl joint.live)
      (still_dwells (group_of b) b (resident_of b w).handles (resident_of b w).facets w.table here here_table joint
      (s.system b low was))

  -- its observation is its only row
  first_row : (h : ℕ) (r : Row) → find_row h plan.table.rows ≡ Some r → r.owner ≡ new → r.facet ≡ 0
  first_row h r found owner =
      elim (given (w.table.next == h) (find_row h w.table.rows) (row_next new 0 x.from 0 said here) r
      (sym (find_row-asserted h new 0 x.from 0 said here here_table) ∙ found)) [
        | inl one ↦ ap (λ (q : Row). q.facet) (sym one.1)
        | inr old ↦
            absurd (let clash : true ≡ false =
            sym (found_owner h w.table r s.table old.1) ∙ ap (λ c. is_live c w.table) owner ∙ is_new in cc)
      ]

  new_dwells : DwellsIn new (resident_of new w) (committed new plan)
  new_dwells =
      subst (λ (r : Resident). DwellsIn new r (committed new plan))
      (sym (ap (λ o. unwrap_or o no_resident) (k.unkept new is_new)))
      (still_dwells (group_of new) new [] [] plan.table (committed new plan) table
      (stays_posted new new plan.out plan.table is_there)
      (dwells_alone (group_of new) new plan.table moves.table is_there (tree_joined new w.table) first_row))

  pub watching_at_home : AreAtHome (watching x w)
  watching_at_home = record {
    table = table;
    system = λ b low live. elim (one_or_not b new) [
      | inl same ↦ subst (λ (c : ℕ). DwellsIn c (resident_of c w) (committed new plan)) (sym same) new_dwells
      | inr apart ↦ old_dwells b low apart (live_before b apart live)
    ];
    roots = λ b far live.
        let apart : b ≢ new = λ same. (let low = may.few in omega (arith, far, low, same)) in
        tree-posted b new plan.out plan.table ∙ other_tree_joined new b w.table (apart_is b new apart)
        ∙ s.roots b far (live_before b apart live);
    rows =
        subst (AllByRecursion IsRootRow) (sym (posted_table new plan.out plan.table).0)
        (all_append IsRootRow w.table.rows (row_next new 0 x.from 0 said here ∷ []) s.rows ((λ far. refl), tt));
  }
