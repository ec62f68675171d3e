-- What contracts know of a system actor, and of its turn, however the actor keeps what it has got.
use Rattle.std.specs.Prelude.{◌≡◌, ℕ, ◌<◌, true, List, [], ◌∷◌, Option, Some, None, map}
use Rattle.std.specs.BTreeMap.{is_at}
use Rattle.std.specs.List.{AllByRecursion}
use Rattle.std.specs.Map.{lookup}
use Rattle.pv_value.specs.Plain.{Plain}
use Rattle.pv_value.specs.Order.{order}
use Rattle.ds_space.specs.Spaces.{Rows}
use Rattle.ac_world.specs.declared.others.Other.{Other}
use Rattle.ac_table.specs.declared.batches.Event.{Event}
use Rattle.ps_schema.specs.declared.Definition.{Definition}
use Rattle.ac_world.specs.declared.parts.Parts.{Parts}
use Rattle.ac_world.specs.declared.residents.Resident.{Resident as ResidentBy}
use Rattle.ac_world.specs.declared.spreads.Spread.{Spread}
use Rattle.ac_table.specs.Tables.{is_live, tree_of}
use Rattle.ac_world.specs.Behaviours.{Behaviour}
use Rattle.ac_world.specs.Allocating.{Facets, IsRooted, AreOwnFacets}
use Rattle.ac_world.specs.Others.{rows_in, task_in}
use Rattle.ac_world.specs.Staying.{Lasting}
use Rattle.ac_world.specs.Watchers.{Watched, next_watcher, task_at}
use Rattle.ac_world.specs.Outboxes.{Plan, plan_over, committed}
use Rattle.ac_world.specs.Worlds.{WorldState, Resident, IsWorld, HaveOwnFacets}
use Rattle.ac_world.specs.Turns.{Turning, all_turned}

abbrev pub resident_by : {S : Type 0} → (S → Rows) → ResidentBy S → Resident
resident_by rows_of r = record { got = rows_of r.system; handles = r.groups.handles; facets = r.groups.facets }

-- what a system actor has and does in its turn, and who spread so far
pub record TurningBy (S : Type 0) : Type 0 where
  pub resident : ResidentBy S
  pub plan : Plan
  pub spreads : List Spread

abbrev pub turning : {S : Type 0} → ResidentBy S → Plan → List Spread → TurningBy S
turning r p ss = record { resident = r; plan = p; spreads = ss }

abbrev pub turning_by : {S : Type 0} → (S → Rows) → TurningBy S → Turning
turning_by rows_of t =
    record { resident = resident_by rows_of t.resident; plan = t.plan; spreads = t.spreads }

-- a turn goes on by f, and the actor behaves as before
abbrev pub TurnsBy : {S : Type 0} → (S → Rows) → (S → Behaviour) → TurningBy S → (Behaviour → Turning → Turning)
    → TurningBy S → Type 0
TurnsBy rows_of behaviour old f new =
    (turning_by rows_of new ≡ f (behaviour old.resident.system) (turning_by rows_of old))
    × (behaviour new.resident.system ≡ behaviour old.resident.system)

-- a facet is that of a group, or of no group whatever it is
abbrev pub IsToldBy : Option Plain → Facets → Option ℕ → Type 0
IsToldBy None fs f = Unit {0}
IsToldBy (Some g) fs f = f ≡ lookup (is_at (order g)) fs

-- an actor that takes its turn is live, and has its facets and those of its groups
pub record Stands (a : ℕ) (t : Turning) : Type 0 where
  pub live : is_live a t.plan.table ≡ true
  pub rooted : IsRooted (tree_of a t.plan.table)
  pub own_facets : AreOwnFacets t.resident.facets (tree_of a t.plan.table)

-- an actor that stood goes on by f: it stands, and what lasts of it is as before
pub record GoesOn {S : Type 0} (rows_of : S → Rows) (behaviour : S → Behaviour) (lasting : S → Lasting) (a : ℕ)
    (old : TurningBy S) (f : Behaviour → Turning → Turning) (new : TurningBy S) : Type 0 where
  pub stands : Stands a (turning_by rows_of new)
  pub turns : TurnsBy rows_of behaviour old f new
  pub lasts : lasting new.resident.system ≡ lasting old.resident.system

-- the dataspaces and watchers of a map
abbrev pub residents_by : List (ℕ × ResidentBy (Other Rows)) → List (ℕ × Resident)
residents_by es = map (λ e. (e.0, resident_by rows_in e.1)) es

-- each has the task that its number tells, where these watchers were made, and none has a number of later ones
abbrev pub IsSeated : List Watched → ℕ × ResidentBy (Other Rows) → Type 0
IsSeated ws e = (task_in e.1.system ≡ task_at e.0 ws) × (e.0 < next_watcher ws)

abbrev pub AreSeated : List Watched → List (ℕ × ResidentBy (Other Rows)) → Type 0
AreSeated ws es = AllByRecursion (IsSeated ws) es

-- ---- a turn over a batch

abbrev pub turning_over : Behaviour → ℕ → ℕ → List Event → Resident → Plan → Turning
turning_over y a from es r p = all_turned y a from es (record { resident = r; plan = p; spreads = [] })

-- what such a turn of actor a leaves, with all of its plan done
pub record IsTurned (a : ℕ) (t : Turning) (r : Resident) (p : Plan) (ss : List Spread) : Type 0 where
  pub stands : Stands a t
  pub resident : r ≡ t.resident
  pub plan : p ≡ plan_over (committed a t.plan)
  pub spreads : ss ≡ t.spreads

-- ---- the parts of a world

abbrev pub residents_of : {S J B : Type 0} → Parts S J B → List (ℕ × Resident)
residents_of p = (0, resident_by (λ g. g.got) p.gatekeeper) ∷ residents_by p.others.entries

-- the world whose parts they are
abbrev pub world_by : {S J B : Type 0} → (J → List Definition) → Parts S J B → WorldState
world_by schema p = record {
  opened = p.opened;
  schema = schema p.judge;
  bindings = p.gatekeeper.system.bindings;
  watches = p.watches.items;
  table = p.plan.table;
  residents = residents_of p;
  held = p.held.entries;
}

-- what is true of them between turns
pub record AreSound {S J B : Type 0} (p : Parts S J B) : Type 0 where
  pub posted : p.plan ≡ plan_over p.plan.table
  pub numbered : IsWorld p.opened p.watches.items p.plan.table
  pub own_facets : HaveOwnFacets p.plan.table (residents_of p)
  pub seated : AreSeated p.watches.items p.others.entries
