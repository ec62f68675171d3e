-- What holds after every list of steps whose callers saw to their conditions.
use Rattle.std.specs.Prelude.{Some, ◌≡◌, ◌≢◌, ℕ, ◌<◌, ◌≤◌, ◌⊎◌, List, [], ◌∷◌, true, false}
use Rattle.ps_schema.specs.declared.Definition.{Definition}
use Rattle.ac_table.specs.Tables.{is_live}
use Rattle.ac_world.specs.declared.spreads.Spread.{Spread}
use Rattle.ac_world.specs.Sums.{deliveries}
use Rattle.ac_world.specs.Worlds.{WorldState, actor_of, entry_of, ended_of}
use Rattle.hub_machine.specs.declared.faults.Fault.{Fault}
use Rattle.hub_machine.specs.Endings.{finished}
use Rattle.hub_machine.specs.State.{State, opening}
use Rattle.hub_machine.specs.Machine.{step, IsAllowed}
use Rattle.hub_machine.specs.Replays.{run_from, replay, IsSettled}
use Rattle.hub_machine.specs.declared.steps.Step.{Step}
use Rattle.hub_machine.specs.declared.steps.Reply.TheVariants.{Refused}
use Rattle.hub_laws.specs.Delivery.{IsDelivered, IsGot}
use Rattle.hub_laws.specs.Wanting.{AreMet}
use Rattle.hub_laws.specs.Endings.{HaveEnded}
use Rattle.hub_laws.specs.Presence.{ArePresent}
use Rattle.hub_laws.specs.Refusals.{whose, IsLeft, IsDismissed, spreads_of, HasFailed}
use Rattle.hub_laws.specs.Refusals.{IsSpread, IsOver, is_named}
use Rattle.hub_laws.specs.Noting.{NotesWhatItGot}
use Rattle.hub_laws.specs.Settled.{HoldsWhatItGot, HoldsFromScratch}

-- each step meets its condition in the state that the steps before it leave
abbrev pub AreAllowed : State → List Step → Type 0
AreAllowed s [] = Unit {0}
AreAllowed s (e ∷ es) = IsAllowed s e × AreAllowed (step s e).state es

-- whatever the schema is by which guards judge
abbrev pub AfterAll : (State → Type 0) → Type 0
AfterAll P = (ds : List Definition) (steps : List Step) → AreAllowed (opening ds) steps → P (replay ds steps)

abbrev pub Delivery : Type 0
Delivery = AfterAll (λ s. IsDelivered s.world)

-- where nothing is pending, inboxes are empty
abbrev pub SettledDelivery : Type 0
SettledDelivery = AfterAll (λ s. IsSettled s → IsGot s.world)

abbrev pub Wants : Type 0
Wants = AfterAll (λ s. AreMet s.world)

abbrev pub Endings : Type 0
Endings = AfterAll HaveEnded

-- what each live connection holds is what it has got
abbrev pub Holdings : Type 0
Holdings =
    (ds : List Definition) (k : ℕ) (steps : List Step) → AreAllowed (opening ds) steps → HoldsWhatItGot ds k steps

-- what a live connection notes is exactly what the rows mention that it has got
abbrev pub Notes : Type 0
Notes =
    (ds : List Definition) (k : ℕ) (steps : List Step) → AreAllowed (opening ds) steps
    → NotesWhatItGot k (replay ds steps)

-- where nothing is pending, it holds exactly what is captured from scratch
abbrev pub SettledHoldings : Type 0
SettledHoldings =
    (ds : List Definition) (k : ℕ) (steps : List Step) → AreAllowed (opening ds) steps → HoldsFromScratch ds k steps

abbrev pub Presence : Type 0
Presence = AfterAll ArePresent

-- the next handle never goes back
abbrev pub Handles : Type 0
Handles = (s : State) (steps : List Step) → s.world.table.next ≤ (run_from s steps).world.table.next

-- of what is refused nothing is left but the fault
abbrev pub Refusals : Type 0
Refusals = AfterAll (λ s. (e : Step) (f : Fault) → (step s e).reply ≡ Refused f
    → IsLeft (whose e) f s (step s e).state)

-- nobody ends in a step but the connection that it closes or refuses, those that its turn names, and those for which too
-- much is held and waits
abbrev pub WhoEnds : Type 0
WhoEnds = (s : State) (e : Step) (k : ℕ) → 1 ≤ k → is_live (actor_of k) s.world.table ≡ true
    → is_live (actor_of k) (step s e).state.world.table ≡ false
    → IsDismissed k e (step s e).reply ⊎ HasFailed (spreads_of e s) k (step s e).state

-- a watcher ends only in a step whose turn names it
abbrev pub WhichWatchersEnd : Type 0
WhichWatchersEnd = AfterAll (λ s. (e : Step) (a : ℕ) → a < 17 → is_live a s.world.table ≡ true
    → is_live a (step s e).state.world.table ≡ false
    → (w : ℕ) × (is_named (spreads_of e s) (record { actor = a; weight = w }) ≡ true))

-- s is what a step has done before its end: there those end that spread, and those for which in s too much is held and
-- waits, whoever else ends
abbrev pub EndsAtOnce : Type 0
EndsAtOnce = (xs : List Spread) (s : State) (k : ℕ) → 1 ≤ k → is_live (actor_of k) s.world.table ≡ true
    → is_live (actor_of k) (finished xs s).world.table ≡ false
    → (f : Fault) × (entry_of k (finished xs s).faults ≡ Some f) × (IsSpread xs (actor_of k) f ⊎ IsOver k s f)

-- an ending ends nobody else: what is counted of others stays
abbrev pub EndingsSpareOthers : Type 0
EndingsSpareOthers = (a b : ℕ) (w : WorldState) → b ≢ a → deliveries b (ended_of a w) ≡ deliveries b w
