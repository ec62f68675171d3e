-- The rows of all actors stand in their facets, whatever becomes of the world.
use Rattle.std.proofs.Common.{◌≡◌, ◌≢◌, ℕ, zero, suc, ◌<◌, ◌≤◌, ◌==◌, List, [], Bool, true, false, cond, not}
use Rattle.std.proofs.Common.{Option, Some, None, is_some, unwrap_or, ◌⊎◌, inl, inr, refl, ap, sym, ◌∙◌, subst}
use Rattle.std.proofs.Common.{arith}
use Rattle.std.proofs.lemmas.Bool.Decides.{nat_tests}
use Rattle.std.specs.List.{AllByRecursion}
use Rattle.pv_value.specs.Plain.{Plain}
use Rattle.ac_table.specs.declared.batches.Row.{Row}
use Rattle.ac_table.specs.Facets.{root_alone}
use Rattle.ac_table.specs.Lemmas.Leaves.{other_tree_ended}
use Rattle.ac_table.specs.Lemmas.Lists.{all_filter}
use Rattle.ac_table.specs.Tables.{TableState, IsTable, find_actor, find_row, is_live, tree_of, ended, rows_of}
use Rattle.ac_world.specs.Aims.{observation_of}
use Rattle.ac_world.specs.Behaviours.{behaviour_of, other}
use Rattle.ac_world.specs.Lemmas.Entries.{out_other}
use Rattle.ac_world.specs.Outboxes.{Outbox, Plan, posted, committed, retractions}
use Rattle.ac_world.specs.Turns.{handle_for}
use Rattle.ac_world.specs.declared.watched.Watched.{Watched}
use Rattle.ac_world.specs.Watchers.{Task, task_at}
use Rattle.ac_world.specs.Worlds.{WorldState, Resident, resident_of, no_resident, gone, ended_of}
use Rattle.ac_world.specs.Allocating.{Facets}
use Rattle.ac_world.proofs.Lives.{tree-posted}
use Rattle.gk_sturdy.specs.declared.bound.Binding.{Binding}
use Rattle.ps_schema.specs.declared.Definition.{Definition}
use Rattle.hub_valid.specs.Lemmas.Lives.{live_gone}
use Rattle.hub_laws.proofs.EndingActors.{ended_table, others_found, others_keep}
use Rattle.hub_laws.proofs.Kept.{Moves}
use Rattle.hub_laws.proofs.Posting.{posted_table}
use Rattle.hub_facets.proofs.Dwelling.{Dwells, AreBuilt}

-- ---- groups

-- of the gatekeeper's keys none has a group
abbrev pub group_of : ℕ → Plain → Option Plain
group_of zero = λ k. None
group_of (suc a) = observation_of

pub groups_are : (ds : List Definition) (bs : List Binding) (ws : List Watched) (a : ℕ)
    → (behaviour_of ds bs ws a).group ≡ group_of a
groups_are ds bs ws zero = refl
groups_are ds bs ws (suc a) = by (task_at (suc a) ws)
  where
    by : (o : Option Task) → (other ds o).group ≡ observation_of
    by None = refl
    by (Some task) = refl

-- ---- what is so of a world

abbrev pub IsRootRow : Row → Type 0
IsRootRow r = 17 ≤ r.owner → r.facet ≡ 0

-- where the rows of system actor a stand
abbrev pub DwellsIn : ℕ → Resident → TableState → Type 0
DwellsIn a resident t = Dwells (group_of a) a None resident.handles resident.facets t

pub record AreAtHome (w : WorldState) : Type 0 where
  pub table : IsTable w.table
  pub system : (a : ℕ) → a < 17 → is_live a w.table ≡ true → DwellsIn a (resident_of a w) w.table
  pub roots : (a : ℕ) → 17 ≤ a → is_live a w.table ≡ true → tree_of a w.table ≡ root_alone
  pub rows : AllByRecursion IsRootRow w.table.rows

-- ---- an actor that nothing happens to

-- from t to u its rows stay, and what is new under an old handle isn't there
pub record StaysIn (b : ℕ) (t u : TableState) : Type 0 where
  pub live : is_live b u ≡ true
  pub later : t.next ≤ u.next
  pub there : (h : ℕ) (r : Row) → find_row h t.rows ≡ Some r → r.owner ≡ b → find_row h u.rows ≡ Some r
  pub back : (h : ℕ) (r : Row) → find_row h u.rows ≡ Some r
      → (find_row h t.rows ≡ Some r) ⊎ ((t.next ≤ h) × (r.owner ≢ b))
  pub tree : tree_of b u ≡ tree_of b t

pub still_dwells : (group : Plain → Option Plain) (b : ℕ) (handles : List (Plain × ℕ)) (facets : Facets)
    (t u : TableState) → IsTable u → StaysIn b t u → Dwells group b None handles facets t
    → Dwells group b None handles facets u
still_dwells group b handles facets t u k s d = record {
  table = k;
  live = s.live;
  handles_ascend = d.handles_ascend;
  facets_ascend = d.facets_ascend;
  below = λ q h e. let l = d.below q h e in let m = s.later in omega (arith, l, m);
  own = λ q h r e found. d.own q h r e (was q h r e found);
  home = λ q h r e found. d.home q h r e (was q h r e found);
  others = λ h r found owner. elim (s.back h r found) [
    | inl old ↦ d.others h r old owner
    | inr new ↦ absurd (new.1 owner)
  ];
  built = subst (AreBuilt facets) (sym s.tree) d.built;
  lived_in = λ f is. elim (d.lived_in f is) [
    | inl none ↦ inl none
    | inr l ↦ inr (record {
      handle = l.handle;
      row = l.row;
      stands = s.there l.handle l.row l.stands l.owner;
      owner = l.owner;
      facet = l.facet;
    })
  ];
}
  where
    was : (q : Plain) (h : ℕ) (r : Row) → handle_for q handles ≡ Some h → find_row h u.rows ≡ Some r
        → find_row h t.rows ≡ Some r
    was q h r e found = elim (s.back h r found) [
      | inl old ↦ old
      | inr new ↦ absurd (let l = d.below q h e in let m = new.0 in omega (arith, l, m))
    ]

-- events are posted, or a batch is taken
pub stays_alike : (b : ℕ) (t u : TableState) → u.rows ≡ t.rows → u.next ≡ t.next → tree_of b u ≡ tree_of b t
    → is_live b u ≡ true → StaysIn b t u
stays_alike b t u rows next tree live = record {
  live = live;
  later = subst (λ n. t.next ≤ n) (sym next) (omega arith);
  there = λ h r found owner. ap (find_row h) rows ∙ found;
  back = λ h r found. inl (ap (find_row h) (sym rows) ∙ found);
  tree = tree;
}

pub stays_posted : (from b : ℕ) (out : Outbox) (t : TableState) → is_live b t ≡ true → StaysIn b t (posted from out t)
stays_posted from b out t live =
    let q = posted_table from out t in
    stays_alike b t (posted from out t) q.0 q.1 (tree-posted b from out t) (q.2 b ∙ live)

-- another's plan is done
pub stays_committed : (a b : ℕ) (t : TableState) (p : Plan) → Moves a t p → b ≢ a → tree_of b p.table ≡ tree_of b t
    → is_live b t ≡ true → StaysIn b t (committed a p)
stays_committed a b t p m apart tree live =
    let q = posted_table a p.out p.table in
    record {
      live = q.2 b ∙ ap (λ xs. is_some (find_actor b xs)) m.actors ∙ live;
      later = subst (λ n. t.next ≤ n) (sym q.1) m.later;
      there = λ h r found owner. ap (find_row h) q.0 ∙ m.stay h r found (λ same. apart (sym owner ∙ same));
      back = λ h r found. elim (m.old h r (ap (find_row h) (sym q.0) ∙ found)) [
        | inl old ↦ inl old
        | inr new ↦ inr (new.0, λ owner. apart (sym owner ∙ new.1))
      ];
      tree = tree-posted b a p.out p.table ∙ tree;
    }

-- ---- an actor goes

module _ (a : ℕ) (w : WorldState) (s : AreAtHome w) where
  abbrev told : Outbox
  told = retractions (rows_of a w.table.rows) []

  -- who is live is another, and was before
  live_still : (b : ℕ) → is_live b (gone a w).table ≡ true → (b ≢ a) × (is_live b w.table ≡ true)
  live_still b live = by (b == a) refl (sym (live_gone b a w) ∙ live)
    where
      by : (c : Bool) → (b == a) ≡ c → cond c false (is_live b w.table) ≡ true → (b ≢ a) × (is_live b w.table ≡ true)
      by true same is = absurd cc
      by false other is = (λ one. absurd (grind (arith, nat_tests, other, one)), is)

  not_same : (b : ℕ) → b ≢ a → (b == a) ≡ false
  not_same b apart = grind (arith, nat_tests, apart)

  other_tree : (b : ℕ) → b ≢ a → tree_of b (gone a w).table ≡ tree_of b w.table
  other_tree b apart = tree-posted b a told (ended a w.table) ∙ other_tree_ended a b w.table (not_same b apart)

  stays_gone : (b : ℕ) → is_live b (gone a w).table ≡ true → b ≢ a → StaysIn b w.table (gone a w).table
  stays_gone b live apart =
      let q = posted_table a told (ended a w.table) in
      record {
        live = live;
        later = subst (λ n. w.table.next ≤ n) (sym q.1) (omega arith);
        there = λ h r found owner.
            ap (find_row h) q.0 ∙ others_keep a h w.table.rows r found (λ same. apart (sym owner ∙ same));
        back = λ h r found.
            inl (others_found a h w.table.rows r s.table.rows_ascend (ap (find_row h) (sym q.0) ∙ found)).0;
        tree = other_tree b apart;
      }

  gone_table : IsTable (gone a w).table
  gone_table = (posted_table a told (ended a w.table)).3 (ended_table a w.table s.table).0

  gone_at_home : AreAtHome (gone a w)
  gone_at_home = record {
    table = gone_table;
    system = λ b low live.
        let was = live_still b live in
        subst (λ (r : Resident). DwellsIn b r (gone a w).table)
        (sym (ap (λ o. unwrap_or o no_resident) (out_other a b w.residents was.0)))
        (still_dwells (group_of b) b (resident_of b w).handles (resident_of b w).facets w.table (gone a w).table
        gone_table (stays_gone b live was.0) (s.system b low was.1));
    roots = λ b far live. let was = live_still b live in other_tree b was.0 ∙ s.roots b far was.1;
    rows =
        subst (AllByRecursion IsRootRow) (sym (posted_table a told (ended a w.table)).0)
        (all_filter IsRootRow IsRootRow (λ r. not (r.owner == a)) (λ r passed root. root) w.table.rows s.rows);
  }

pub ended_at_home : (a : ℕ) (w : WorldState) → AreAtHome w → AreAtHome (ended_of a w)
ended_at_home a w s = by (is_live a w.table)
  where
    by : (c : Bool) → AreAtHome (cond c (gone a w) w)
    by true = gone_at_home a w s
    by false = s
