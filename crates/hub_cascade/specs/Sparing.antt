-- Whom a step spares, what may be held and wait for an actor, and what it is to be told of retractions alone.
use Rattle.std.specs.Prelude.{◌≡◌, ◌≢◌, ℕ, ◌≤◌, true, false, List, ◌++◌, Some}
use Rattle.std.specs.List.{AllByRecursion}
use Rattle.ac_table.specs.declared.batches.Event.{Event}
use Rattle.ac_table.specs.declared.batches.Event.TheVariants.{Assert, Retract, Message, Sync}
use Rattle.ac_table.specs.declared.batches.Batch.{Batch}
use Rattle.ac_table.specs.Tables.{Actor, find_actor, is_live}
use Rattle.ac_world.specs.Sums.{deliveries}
use Rattle.ac_world.specs.Worlds.{WorldState, actor_of}
use Rattle.hub_machine.specs.Limits.{most_deliveries, most_deliveries_weight}
use Rattle.hub_machine.specs.State.{State}

-- the assertions that an actor has got, and the assertions, messages and syncs that wait for it, are no more than
-- 65,536, and weigh no more than 16,777,216
abbrev pub IsWithin : ℕ → WorldState → Type 0
IsWithin a w = ((deliveries a w).count ≤ most_deliveries) × ((deliveries a w).weight ≤ most_deliveries_weight)

-- from s to t everybody is live who was, and nobody else
abbrev pub SparesAll : State → State → Type 0
SparesAll s t = (b : ℕ) → is_live b t.world.table ≡ is_live b s.world.table

-- everybody but actor a
abbrev pub SparesOthers : ℕ → State → State → Type 0
SparesOthers a s t = (b : ℕ) → b ≢ a → is_live b t.world.table ≡ is_live b s.world.table

-- a retraction is all that an event is
abbrev pub IsRetraction : Event → Type 0
IsRetraction (Assert h entity v) = ⊥
IsRetraction (Retract h entity) = Unit {0}
IsRetraction (Message entity v) = ⊥
IsRetraction (Sync entity peer) = ⊥

abbrev pub TakesBack : Batch → Type 0
TakesBack b = AllByRecursion IsRetraction b.events

-- among the actors is b, for which these batches wait, and behind them some that take back alone
pub record WaitsBehind (b : ℕ) (old : List Batch) (actors : List Actor) : Type 0 where
  pub actor : Actor
  pub found : find_actor b actors ≡ Some actor
  pub came : List Batch
  pub back : AllByRecursion TakesBack came
  pub inbox : actor.inbox ≡ old ++ came

-- from s to t whoever is live but a is told nothing, or is told that something is taken back
abbrev pub TellsBack : ℕ → State → State → Type 0
TellsBack a s t =
    (b : ℕ) (x : Actor) → b ≢ a → find_actor b s.world.table.actors ≡ Some x
    → WaitsBehind b x.inbox t.world.table.actors

-- connection k ends, and nobody else
pub record EndsAlone (k : ℕ) (s t : State) : Type 0 where
  pub was_live : is_live (actor_of k) s.world.table ≡ true
  pub ended : is_live (actor_of k) t.world.table ≡ false
  pub others : SparesOthers (actor_of k) s t
  pub told : TellsBack (actor_of k) s t

-- actor a does something, and nobody ends
pub record EndsNobody (a : ℕ) (s t : State) : Type 0 where
  pub all : SparesAll s t
  pub told : TellsBack a s t
