-- Each handle is drawn once, and a turn takes all of its batch: what holds after every list of steps whose callers saw to
-- their conditions.
use Rattle.std.specs.Prelude.{◌≡◌, ℕ, List, ◌∷◌, ◌++◌, true, false, Some}
use Rattle.std.specs.List.{flat_map}
use Rattle.pv_value.specs.Plain.{Plain}
use Rattle.ps_schema.specs.declared.Definition.{Definition}
use Rattle.ds_space.specs.Spaces.{has_row}
use Rattle.ac_table.specs.declared.batches.Batch.{Batch}
use Rattle.ac_table.specs.declared.batches.Event.{Event}
use Rattle.ac_table.specs.declared.batches.Event.TheVariants.{Assert}
use Rattle.ac_table.specs.Tables.{first_batch}
use Rattle.ac_world.specs.Worlds.{is_system}
use Rattle.rl_packet.specs.Holding.{events_in}
use Rattle.hub_machine.specs.State.{opening}
use Rattle.hub_machine.specs.Machine.{is_worn}
use Rattle.hub_machine.specs.Replays.{replay, sent_to}
use Rattle.hub_machine.specs.declared.steps.Step.{Step}
use Rattle.hub_machine.specs.declared.steps.Step.TheVariants.{Turn}
use Rattle.hub_laws.specs.Laws.{AreAllowed, AfterAll}
use Rattle.hub_handles.specs.Drawn.{AreDrawn}
use Rattle.hub_handles.specs.Once.{AreDrawnOnce, AreSentOnce, turning_after}
use Rattle.hub_handles.specs.Taking.{TakesAll}

-- each handle that a state has was drawn
abbrev pub HandlesAreDrawn : Type 0
HandlesAreDrawn = AfterAll AreDrawn

-- no handle is drawn for two rows, at whatever times they stand
abbrev pub RowsAreDrawnOnce : Type 0
RowsAreDrawnOnce = AfterAll AreDrawnOnce

-- no two assertions that are sent to a connection have one handle, and none is sent under a handle that wasn't drawn
abbrev pub AssertionsAreSentOnce : Type 0
AssertionsAreSentOnce =
    (ds : List Definition) (k : ℕ) (steps : List Step) → AreAllowed (opening ds) steps
    → AreSentOnce (replay ds steps).world.table.next (flat_map events_in (sent_to ds k steps))

-- a system actor hasn't got a row yet under the handle of an assertion that it takes; so none is passed over as known
abbrev pub AssertionsAreNew : Type 0
AssertionsAreNew =
    AfterAll (λ s. (a : ℕ) (b : Batch) → is_system a ≡ true → first_batch a s.world.table ≡ Some b
    → (before later : List Event) (h entity : ℕ) (v : Plain) → b.events ≡ before ++ Assert h entity v ∷ later
    → has_row h (turning_after a b before s.world).resident.got ≡ false)

-- whoever takes its turn, and is still live after it, has got all of its first batch
abbrev pub TurnsTakeAll : Type 0
TurnsTakeAll =
    AfterAll (λ s. (a : ℕ) (b : Batch) → is_worn s (Turn a) ≡ false → first_batch a s.world.table ≡ Some b
    → TakesAll a b s)
