-- The limits, in words: who is counted for them, whom they bar, and whom they end.
use Rattle.std.specs.Prelude.{◌≡◌, ◌↔◌, ℕ, ◌<◌, true, List, Some}
use Rattle.ac_table.specs.declared.batches.Batch.{Batch}
use Rattle.ac_table.specs.declared.batches.Event.{Event}
use Rattle.ac_table.specs.Tables.{is_live, first_batch, popped}
use Rattle.ac_world.specs.declared.spreads.Spread.{Spread}
use Rattle.ac_world.specs.declared.turns.Turned.TheVariants as turned
use Rattle.ac_world.specs.Behaviours.{Behaviour, behaviour_of}
use Rattle.ac_world.specs.Turns.{Turning, turn, begin_turn}
use Rattle.ac_world.specs.Worlds.{WorldState}
use Rattle.hub_machine.specs.State.{State}
use Rattle.hub_machine.specs.Machine.{step}
use Rattle.hub_machine.specs.declared.steps.Step.{Step}
use Rattle.hub_machine.specs.declared.steps.Reply.TheVariants.{Barred}
use Rattle.hub_laws.specs.Laws.{AfterAll}
use Rattle.hub_limits.specs.Barring.{HasCause, HasNumbers}
use Rattle.hub_limits.specs.Blaming.{SpreadsSo, AreOfEvents}
use Rattle.hub_limits.specs.Counting.{AreCounted}
use Rattle.hub_limits.specs.Watches.{AreFineWatches}

abbrev pub WhoIsCounted : Type 0
WhoIsCounted = AfterAll AreCounted

-- from any state
abbrev pub BarredForACause : Type 0
BarredForACause = (s : State) (e : Step) → ((step s e).reply ≡ Barred) ↔ (HasNumbers s e × HasCause s e)

-- one event of a system actor's turn, however the actor behaves and whatever came before
abbrev pub EventsEndWhoIsToBlame : Type 0
EventsEndWhoIsToBlame = (y : Behaviour) (a from : ℕ) (e : Event) (t : Turning) → a < 17 → SpreadsSo y a from e t

-- w is a world in which the system actor a takes the batch b
abbrev pub TurnsEndThoseOfTheirEvents : Type 0
TurnsEndThoseOfTheirEvents =
    (a : ℕ) (b : Batch) (w : WorldState) → a < 17 → is_live a w.table ≡ true → first_batch a w.table ≡ Some b
    → (xs : List Spread) × ((turn a w).turned ≡ turned.Ran xs)
    × AreOfEvents (behaviour_of w.schema w.bindings w.watches a) a b.from b.events
    (begin_turn a (record w { table = popped a w.table })) xs

abbrev pub WatchesAreFine : Type 0
WatchesAreFine = AfterAll (λ s. AreFineWatches s.world.watches)
