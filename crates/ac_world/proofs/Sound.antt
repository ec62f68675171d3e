-- The parts of a world stay sound, and are those of the world that is defined, as actors come, take a batch and go.
use Rattle.std.proofs.Common.{◌≡◌, ℕ, ◌+◌, ◌<◌, ◌≤◌, List, [], ◌∷◌, ◌++◌, true, false, None, if◌then◌else◌, length}
use Rattle.std.proofs.Common.{ap, sym, subst, ◌∙◌, arith}
use Rattle.std.specs.Prelude.{vec_len}
use Rattle.std.specs.BTreeMap.{is_at}
use Rattle.std.specs.Map.{remove_entry}
use Rattle.std.specs.Ordering.{nat_cmp}
use Rattle.pv_value.specs.Plain.{Plain}
use Rattle.ps_schema.specs.declared.Definition.{Definition}
use Rattle.ac_table.specs.Faults.{actor_fault}
use Rattle.ac_table.specs.Tables.{TableState, is_live, joined, popped, ended, rows_of}
use Rattle.ac_world.specs.declared.acts.Act.{Act}
use Rattle.ac_world.specs.declared.acts.Act.TheVariants as act
use Rattle.ac_world.specs.declared.others.Other.{Other}
use Rattle.ac_world.specs.declared.parts.Parts.{Parts}
use Rattle.ac_world.specs.declared.residents.Resident.{Resident as ResidentBy}
use Rattle.ac_world.specs.Keeping.{AreSound, AreSeated, resident_by, residents_by, residents_of, world_by}
use Rattle.ac_world.specs.Limits.{most_watchers}
use Rattle.ac_world.specs.Outboxes.{Outbox, posted, retractions}
use Rattle.ac_world.specs.Watchers.{Watched, next_watcher, observation_by}
use Rattle.ac_world.specs.Worlds.{WorldState, Resident, Deliveries, IsWorld, HaveOwnFacets, sent, watching, without_entry}
use Rattle.ac_world.specs.Worlds.{gone, ended_of}
use Rattle.ds_space.specs.Spaces.{Rows}
use Rattle.ac_world.proofs.OwnFacetsKept.{own_facets_joined, own_facets_popped, own_facets_ended, own_facets_posted}
use Rattle.ac_world.proofs.Numbers.{next_is_new, world_joined, watcher_is_new, world_watched}
use Rattle.ac_world.proofs.Numbers.{world_popped, popped_live, world_gone, faultless_live}
use Rattle.ac_world.proofs.Taken.{none_seated, seated_more, residents_out, seated_out}

module _ {S J B : Type 0} (p : Parts S J B) (s : AreSound p) where
  abbrev gate : Resident
  gate = resident_by (λ g. g.got) p.gatekeeper

  -- what is true of a table and of the actors that are kept
  abbrev pub AreKept : ℕ → List Watched → TableState → List (ℕ × ResidentBy (Other Rows)) → Type 0
  AreKept opened ws t es = IsWorld opened ws t × HaveOwnFacets t ((0, gate) ∷ residents_by es) × AreSeated ws es

  -- ---- a connection

  pub number_is_new : is_live (16 + (p.opened + 1)) p.plan.table ≡ false
  number_is_new = next_is_new p.opened p.watches.items p.plan.table s.numbered

  pub sound_arrived : (t : TableState) → t ≡ joined (16 + (p.opened + 1)) p.plan.table
      → AreKept (p.opened + 1) p.watches.items t p.others.entries
  sound_arrived t is = (
    subst (IsWorld (p.opened + 1) p.watches.items) (sym is)
        (world_joined p.opened p.watches.items p.plan.table s.numbered),
    own_facets_joined (16 + (p.opened + 1)) p.plan.table t (residents_of p) (λ low. absurd (omega (arith, low))) is
        s.own_facets,
    s.seated,
  )

  -- ---- a watcher

  module _ (n : ℕ) (made : n ≡ vec_len p.watches) (first : p.opened ≡ 0) where
    many : n ≡ length p.watches.items
    many = made ∙ p.watches.ok.0

    before : IsWorld 0 p.watches.items p.plan.table
    before = subst (λ (o : ℕ). IsWorld o p.watches.items p.plan.table) first s.numbered

    pub watcher_new : is_live (9 + n) p.plan.table ≡ false
    watcher_new =
        ap (λ (m : ℕ). is_live (9 + m) p.plan.table) many ∙ watcher_is_new p.watches.items p.plan.table before

    module _ (x : Watched) (ws : List Watched) (t : TableState) (more : ws ≡ p.watches.items ++ x ∷ [])
        (come : t ≡ joined (9 + n) p.plan.table) where
      numbered_come : t ≡ joined (next_watcher p.watches.items) p.plan.table
      numbered_come = come ∙ ap (λ (m : ℕ). joined (9 + m) p.plan.table) many

      pub sound_watched : length p.watches.items < most_watchers → AreKept p.opened ws t p.others.entries
      sound_watched few = (
        subst (λ (o : ℕ). IsWorld o ws t) (sym first)
            (subst (λ (l : List Watched). IsWorld 0 l t) (sym more)
            (subst (IsWorld 0 (p.watches.items ++ x ∷ [])) (sym numbered_come)
            (world_watched p.watches.items x p.plan.table few before))),
        own_facets_joined (next_watcher p.watches.items) p.plan.table t (residents_of p)
            (λ low. none_seated (next_watcher p.watches.items) p.watches.items gate p.others.entries (omega arith)
            s.seated) numbered_come s.own_facets,
        subst (λ (l : List Watched). AreSeated l p.others.entries) (sym more)
            (seated_more p.watches.items x p.others.entries s.seated),
      )

      pub watching_is : (schema : J → List Definition) (observation : Plain) (acts : List Act)
          → observation ≡ observation_by (9 + n) x.pattern → acts ≡ act.Assert x.from 0 observation ∷ []
          → sent (9 + n) acts (record {
            opened = p.opened;
            schema = schema p.judge;
            bindings = p.gatekeeper.system.bindings;
            watches = ws;
            table = t;
            residents = (0, gate) ∷ residents_by p.others.entries;
            held = p.held.entries;
          }) ≡ watching x (world_by schema p)
      watching_is schema observation acts observes acts_are =
          let w : WorldState = world_by schema p in
          let observed : observation ≡ observation_by (next_watcher p.watches.items) x.pattern =
          observes ∙ ap (λ (m : ℕ). observation_by (9 + m) x.pattern) many in
          let all : acts ≡ act.Assert x.from 0 (observation_by (next_watcher p.watches.items) x.pattern) ∷ [] =
          acts_are ∙ ap (λ (o : Plain). act.Assert x.from 0 o ∷ []) observed in
          λ i. sent (9 + many i) (all i) (record w { watches = more i; table = numbered_come i })

  -- ---- an actor takes a batch

  pub sound_popped : (a : ℕ) (t : TableState) → t ≡ popped a p.plan.table
      → AreKept p.opened p.watches.items t p.others.entries
  sound_popped a t is = (
    world_popped a p.opened p.watches.items t p.plan.table is s.numbered,
    own_facets_popped a p.plan.table t (residents_of p) is s.own_facets,
    s.seated,
  )

  pub taker_live : (a : ℕ) (t : TableState) → actor_fault a p.plan.table ≡ None → t ≡ popped a p.plan.table
      → is_live a t ≡ true
  taker_live a t fault is = popped_live a t p.plan.table fault is

  -- ---- an actor goes

  module _ (a : ℕ) (other : 9 ≤ a) (out : Outbox) (less t : TableState) (es : List (ℕ × ResidentBy (Other Rows)))
      (less_is : less ≡ ended a p.plan.table) (t_is : t ≡ posted a out less)
      (es_is : es ≡ remove_entry (is_at (nat_cmp a)) p.others.entries) where
    some : 0 < a
    some = omega (arith, other)

    left : (0, gate) ∷ residents_by es ≡ without_entry a (residents_of p)
    left = residents_out a gate p.others.entries es some es_is

    pub sound_ended : AreKept p.opened p.watches.items t es
    sound_ended = (
      world_gone a a p.opened p.watches.items out less t p.plan.table less_is t_is s.numbered,
      subst (HaveOwnFacets t) (sym left)
          (own_facets_posted a out less t (without_entry a (residents_of p)) t_is
          (own_facets_ended a p.plan.table less (residents_of p) less_is s.own_facets)),
      seated_out a p.watches.items p.others.entries es es_is s.seated,
    )

    pub ended_is : (schema : J → List Definition) (held : List (ℕ × Deliveries)) → actor_fault a p.plan.table ≡ None
        → out ≡ retractions (rows_of a p.plan.table.rows) [] → held ≡ remove_entry (is_at (nat_cmp a)) p.held.entries
        → record {
          opened = p.opened;
          schema = schema p.judge;
          bindings = p.gatekeeper.system.bindings;
          watches = p.watches.items;
          table = t;
          residents = (0, gate) ∷ residents_by es;
          held = held;
        } ≡ ended_of a (world_by schema p)
    ended_is schema held fault out_is held_is =
        let w : WorldState = world_by schema p in
        let live : is_live a p.plan.table ≡ true = faultless_live a p.plan.table fault in
        let table : t ≡ posted a (retractions (rows_of a p.plan.table.rows) []) (ended a p.plan.table) =
        t_is ∙ (λ i. posted a (out_is i) (less_is i)) in
        (λ i. record w { table = table i; residents = left i; held = held_is i })
        ∙ ap (λ b. if b then gone a w else w) (sym live)
