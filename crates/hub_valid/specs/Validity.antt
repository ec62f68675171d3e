-- Valid states: what events and values in them name. n tells which actors were ever live.
use Rattle.std.specs.Prelude.{◌≡◌, ℕ, ◌+◌, ◌^◌, ◌<◌, ◌≤◌, true, false, List, length, IsSomeAnd}
use Rattle.std.specs.List.{AllByRecursion}
use Rattle.std.specs.Map.{values_of}
use Rattle.pv_value.specs.Plain.{Plain}
use Rattle.sr_caveat.specs.declared.caps.Cap.{Cap}
use Rattle.sr_caveat.specs.Caps.{cap_of, IsSound}
use Rattle.sr_caveat.specs.Embedded.{has_embedded}
use Rattle.gk_sturdy.specs.declared.bound.Binding.{Binding}
use Rattle.ps_schema.specs.declared.Definition.{Definition}
use Rattle.ac_table.specs.declared.batches.Row.{Row}
use Rattle.ac_table.specs.declared.batches.Event.{Event}
use Rattle.ac_table.specs.declared.batches.Event.TheVariants.{Assert, Retract, Message, Sync}
use Rattle.ac_table.specs.declared.batches.Batch.{Batch}
use Rattle.ac_table.specs.Tables.{Actor}
use Rattle.ac_world.specs.declared.acts.Act.{Act}
use Rattle.ac_world.specs.declared.acts.Act.TheVariants as act
use Rattle.ac_world.specs.Limits.{most_watchers}
use Rattle.ac_world.specs.declared.watched.Watched.{Watched}
use Rattle.ac_world.specs.Worlds.{WorldState, Resident, Deliveries, is_space}
use Rattle.ac_world.specs.declared.held.Held.{Held}
use Rattle.rl_ports.specs.Ports.{PortsState}
use Rattle.rl_wire.specs.Crossing.{held_in}
use Rattle.hub_machine.specs.State.{State, opening}
use Rattle.hub_machine.specs.Machine.{step, IsAllowed}
use Rattle.hub_machine.specs.declared.steps.Step.{Step}

-- ---- objects and values

-- so many connections have come, and so many watchers were made
pub record Lived : Type 0 where
  pub opened : ℕ
  pub watchers : ℕ

abbrev pub lived : WorldState → Lived
lived w = record { opened = w.opened; watchers = length w.watches }

-- An object of an actor that is or was live. Of the system's actors those are the gatekeeper, the dataspaces and the
-- watchers that were made, and each has object 0 alone.
abbrev pub IsObjectAt : Lived → ℕ → ℕ → Type 0
IsObjectAt n actor entity =
    (actor ≤ 16 + n.opened) × (entity < 2 ^ 63) × (actor < 17 → (actor < 9 + n.watchers) × (entity ≡ 0))

-- a reference to such an object
abbrev pub IsObject : Lived → Cap → Type 0
IsObject n c = IsObjectAt n c.actor c.entity

-- the value of such a reference
abbrev pub IsObjectValue : Lived → Plain → Type 0
IsObjectValue n x = IsSomeAnd (cap_of x) (IsObject n)

-- each embedded value in it that isn't inside another holds one
abbrev pub HoldsObjects : Lived → Plain → Type 0
HoldsObjects n v = AllByRecursion (IsObjectValue n) (held_in v)

-- ---- the world; next is the next handle

abbrev pub IsValidRow : Lived → ℕ → Row → Type 0
IsValidRow n next r = (r.handle < next) × IsObjectAt n r.target r.entity × HoldsObjects n r.value

abbrev pub IsValidEvent : Lived → ℕ → Event → Type 0
IsValidEvent n next (Assert h entity v) = (h < next) × (entity < 2 ^ 63) × HoldsObjects n v
IsValidEvent n next (Retract h entity) = (h < next) × (entity < 2 ^ 63)
IsValidEvent n next (Message entity v) = (entity < 2 ^ 63) × HoldsObjects n v
IsValidEvent n next (Sync entity peer) = (entity < 2 ^ 63) × IsObjectValue n peer

abbrev pub IsValidBatch : Lived → ℕ → Batch → Type 0
IsValidBatch n next b = AllByRecursion (IsValidEvent n next) b.events

abbrev pub IsValidActor : Lived → ℕ → Actor → Type 0
IsValidActor n next x = AllByRecursion (IsValidBatch n next) x.inbox

-- what a system actor has got
abbrev pub IsValidResident : Lived → ℕ × Resident → Type 0
IsValidResident n e = AllByRecursion (HoldsObjects n) (values_of e.1.got)

-- what a connection has got
abbrev pub IsValidDelivery : Lived → ℕ × Held → Type 0
IsValidDelivery n e = (e.1.entity < 2 ^ 63) × HoldsObjects n e.1.value

abbrev pub AreValidDeliveries : Lived → ℕ × Deliveries → Type 0
AreValidDeliveries n e = AllByRecursion (IsValidDelivery n) e.1

abbrev pub IsValidAct : Lived → Act → Type 0
IsValidAct n (act.Assert target entity v) = IsObjectAt n target entity × HoldsObjects n v
IsValidAct n (act.Retract h) = Unit {0}
IsValidAct n (act.Message target entity v) = IsObjectAt n target entity × HoldsObjects n v
IsValidAct n (act.Sync target entity peer) = IsObjectAt n target entity × IsObjectValue n peer

-- what a binding gives is a reference that is read back, to such an object
abbrev pub IsValidBinding : Lived → Binding → Type 0
IsValidBinding n b = IsSound b.cap × IsObject n b.cap

-- a watcher watches and asserts at dataspaces, and nothing is embedded in its pattern
abbrev pub IsValidWatch : Watched → Type 0
IsValidWatch x = (is_space x.from ≡ true) × (is_space x.to ≡ true) × (has_embedded x.pattern ≡ false)

pub record IsValidWorld (w : WorldState) : Type 0 where
  pub rows : AllByRecursion (IsValidRow (lived w) w.table.next) w.table.rows
  pub inboxes : AllByRecursion (IsValidActor (lived w) w.table.next) w.table.actors
  pub got : AllByRecursion (IsValidResident (lived w)) w.residents
  pub held : AllByRecursion (AreValidDeliveries (lived w)) w.held
  pub bound : AllByRecursion (IsValidBinding (lived w)) w.bindings
  pub watched : AllByRecursion IsValidWatch w.watches

-- ---- the hub

-- connections count from 1
abbrev pub HasCome : ℕ → ℕ → Type 0
HasCome opened k = (1 ≤ k) × (k ≤ opened)

-- the connection has come, and its exports in force are references to such objects
abbrev pub IsValidEntry : Lived → ℕ × PortsState → Type 0
IsValidEntry n e = HasCome n.opened e.0 × AllByRecursion (λ x. IsObjectValue n x.1) e.1.exports.in_force

-- What a world and the names of its connections are in a valid state. Few enough connections have come that the number
-- of each one's actor can stand in a reference, and there are no more watchers than may be.
pub record AreValid (w : WorldState) (names : List (ℕ × PortsState)) : Type 0 where
  pub few : w.opened ≤ 2 ^ 31
  pub few_watchers : length w.watches ≤ most_watchers
  pub world : IsValidWorld w
  pub named : AllByRecursion (IsValidEntry (lived w)) names

abbrev pub IsValid : State → Type 0
IsValid s = AreValid s.world s.connections

-- ---- the law

-- the state is valid at the beginning, and after each step whose caller saw to its condition
abbrev pub StaysValid : Type 0
StaysValid =
    ((ds : List Definition) → IsValid (opening ds))
    × ((s : State) (e : Step) → IsValid s → IsAllowed s e → IsValid (step s e).state)
