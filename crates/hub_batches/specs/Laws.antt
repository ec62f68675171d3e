-- Batches: what a turn takes and what each is told in it, over all runs; and of single turns and steps, from any state.
use Rattle.std.specs.Prelude.{◌≡◌, ℕ, true, false, List, ◌∷◌, ◌++◌, Option, Some}
use Rattle.pv_value.specs.Plain.{Plain}
use Rattle.pv_value.specs.WellFormed.{Ascend}
use Rattle.ds_space.specs.Spaces.{Rows, changed}
use Rattle.ds_space.specs.declared.space.SpaceEvent.TheVariants.{Add, Gone}
use Rattle.ac_table.specs.declared.batches.Event.{Event}
use Rattle.ac_table.specs.declared.batches.Event.TheVariants.{Assert, Retract}
use Rattle.ac_table.specs.declared.batches.Batch.{Batch}
use Rattle.ac_table.specs.Tables.{is_live, lowest}
use Rattle.ac_world.specs.Behaviours.{Behaviour}
use Rattle.ac_world.specs.Outboxes.{told_to}
use Rattle.ac_world.specs.Turns.{Turning, begin_turn, turned_by, all_turned, turn}
use Rattle.ac_world.specs.Worlds.{WorldState, is_system}
use Rattle.ac_world.specs.declared.watched.Watched.{Watched}
use Rattle.hub_machine.specs.State.{State}
use Rattle.hub_machine.specs.Machine.{is_worn, step}
use Rattle.hub_machine.specs.declared.steps.Step.TheVariants.{Turn, Work}
use Rattle.hub_laws.specs.Laws.{AfterAll}
use Rattle.hub_laws.specs.Wanting.{IsMet}
use Rattle.hub_cascade.specs.Sparing.{TakesBack}
use Rattle.hub_batches.specs.Taking.{inbox_at, less, behaving, told_by, IsTurnOver, OnlyEnds}
use Rattle.hub_batches.specs.Telling.{wanted_alone, told_of_change, is_passed_over, said_to, all_told_of, got_with_all}

-- ---- a turn takes one batch

abbrev pub ATurnTakesOneBatch : Type 0
ATurnTakesOneBatch = (a : ℕ) (w : WorldState) → IsTurnOver a (inbox_at a w.table) w (turn a w).world

-- and so does its step: what more becomes of inboxes is by those who end
pub record StepsAlike (a : ℕ) (s : State) : Type 0 where
  pub by_itself : OnlyEnds (turn a s.world).world (step s (Turn a)).state.world
  pub as_work : lowest s.world.table ≡ Some a → is_system a ≡ true
      → OnlyEnds (turn a s.world).world (step s Work).state.world

abbrev pub AStepTakesOneBatch : Type 0
AStepTakesOneBatch = (a : ℕ) (s : State) → is_worn s (Turn a) ≡ false → StepsAlike a s

-- ---- each event of the batch tells, in order

-- in the turn of a system actor over its first batch
abbrev pub EventsTellInOrder : Type 0
EventsTellInOrder =
    AfterAll (λ s. (a : ℕ) (d : Batch) (rest : List Batch) → is_system a ≡ true
    → inbox_at a s.world.table ≡ Some (d ∷ rest) → (b : ℕ)
    → told_by a d s.world b
    ≡ all_told_of (behaving a s.world) (said_to s.world.schema a b) b a d.from d.events (begin_turn a (less a s.world)))

-- and what the actor has got follows its events in order
abbrev pub GotInOrder : Type 0
GotInOrder =
    (y : Behaviour) (a from : ℕ) (es : List Event) (t : Turning)
    → (all_turned y a from es t).resident.got ≡ got_with_all y es t.resident.got

-- ---- rows go before others come

-- actor b is told so of an event in a turn
pub record TellsOfRows (y : Behaviour) (a from b : ℕ) (t : Turning) : Type 0 where
  pub comes : (h entity : ℕ) (v : Plain) → is_passed_over y h v t.resident.got ≡ false
      → told_to b (turned_by y a from (Assert h entity v) t).plan.out
      ≡ told_to b t.plan.out ++ told_of_change y b (changed t.resident.got (Add h v)) t
  pub goes : (h entity : ℕ)
      → told_to b (turned_by y a from (Retract h entity) t).plan.out
      ≡ told_to b t.plan.out ++ told_of_change y b (changed t.resident.got (Gone h)) t

-- where the actor's keys ascend, and its rows are those of what it wants
abbrev pub RowsGoFirst : Type 0
RowsGoFirst =
    (y : Behaviour) (o : Option Watched) (a from b : ℕ) (t : Turning) → ((vs : List Plain) → Ascend (y.keys vs))
    → IsMet y o a t.resident t.plan.table.rows → TellsOfRows y a from b t

-- each live system actor's keys ascend, those that go and those that come
abbrev pub EachSideAscends : Type 0
EachSideAscends =
    AfterAll (λ s. (a : ℕ) → is_system a ≡ true → is_live a s.world.table ≡ true
    → ((vs : List Plain) → Ascend ((behaving a s.world).keys vs))
    × ((rows others : Rows) → Ascend (wanted_alone (behaving a s.world) rows others)))

-- ---- a turn over retractions alone tells its own actor nothing

-- behind the batch that actor a takes these wait, and nothing else once it is taken
pub record IsToldNothing (a : ℕ) (rest : List Batch) (s : State) : Type 0 where
  pub at_once : inbox_at a (turn a s.world).world.table ≡ Some rest
  pub by_itself : is_worn s (Turn a) ≡ false → inbox_at a (step s (Turn a)).state.world.table ≡ Some rest
  pub as_work : is_worn s Work ≡ false → lowest s.world.table ≡ Some a → is_system a ≡ true
      → inbox_at a (step s Work).state.world.table ≡ Some rest

abbrev pub RetractionsTellNothingBack : Type 0
RetractionsTellNothingBack =
    AfterAll (λ s. (a : ℕ) (d : Batch) (rest : List Batch) → inbox_at a s.world.table ≡ Some (d ∷ rest) → TakesBack d
    → IsToldNothing a rest s)
