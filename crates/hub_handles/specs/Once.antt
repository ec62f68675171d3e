-- Each handle is drawn once: no row comes under a handle that was drawn before, and no assertion is sent or taken twice.
use Rattle.std.specs.Prelude.{◌≡◌, ℕ, ◌≤◌, ◌⊎◌, List, [], ◌∷◌, Some, None}
use Rattle.std.specs.List.{flat_map}
use Rattle.std.specs.List.Sorted.{IsStrictlySortedBy}
use Rattle.std.specs.Ordering.{nat_cmp}
use Rattle.ac_table.specs.declared.batches.Row.{Row}
use Rattle.ac_table.specs.declared.batches.Batch.{Batch}
use Rattle.ac_table.specs.declared.batches.Event.{Event}
use Rattle.ac_table.specs.Tables.{find_row, popped}
use Rattle.ac_world.specs.Behaviours.{behaviour_of}
use Rattle.ac_world.specs.Turns.{Turning, all_turned, begin_turn}
use Rattle.ac_world.specs.Worlds.{WorldState}
use Rattle.rl_packet.specs.declared.packets.Event.{Event as Sent}
use Rattle.rl_packet.specs.declared.packets.Event.TheVariants.{Assert, Retract, Message, Sync}
use Rattle.rl_packet.specs.declared.packets.TurnEvent.{TurnEvent}
use Rattle.hub_machine.specs.State.{State}
use Rattle.hub_machine.specs.Replays.{run_from}
use Rattle.hub_machine.specs.declared.steps.Step.{Step}
use Rattle.hub_handles.specs.Drawn.{WereDrawn}

-- ---- rows

-- each row of the later state t is one of s, the same, or its handle wasn't drawn yet in s
abbrev pub ComesAnew : State → State → Type 0
ComesAnew s t =
    (h : ℕ) (r : Row) → find_row h t.world.table.rows ≡ Some r
    → (find_row h s.world.table.rows ≡ Some r) ⊎ (s.world.table.next ≤ h)

-- whatever is done after s
pub record AreDrawnOnce (s : State) : Type 0 where
  pub anew : (later : List Step) → ComesAnew s (run_from s later)
  -- what stands under a handle whose row stands in s is that row
  pub one : (h : ℕ) (r q : Row) (later : List Step) → find_row h s.world.table.rows ≡ Some r
      → find_row h (run_from s later).world.table.rows ≡ Some q → q ≡ r
  -- and once that has gone, nothing stands under its handle any more
  pub gone : (h : ℕ) (r : Row) (later more : List Step) → find_row h s.world.table.rows ≡ Some r
      → find_row h (run_from s later).world.table.rows ≡ None
      → find_row h (run_from (run_from s later) more).world.table.rows ≡ None

-- ---- what is sent

-- the handle of an assertion that is sent
abbrev pub asserted_by : Sent → List ℕ
asserted_by (Assert v h) = h ∷ []
asserted_by (Retract h) = []
asserted_by (Message v) = []
asserted_by (Sync peer) = []

abbrev pub asserted_in : List TurnEvent → List ℕ
asserted_in es = flat_map (λ e. asserted_by e.event) es

-- the handle of which an event tells that is sent
abbrev pub told_by : Sent → List ℕ
told_by (Assert v h) = h ∷ []
told_by (Retract h) = h ∷ []
told_by (Message v) = []
told_by (Sync peer) = []

abbrev pub told_in : List TurnEvent → List ℕ
told_in es = flat_map (λ e. told_by e.event) es

-- the handles of the assertions ascend, so that none has two; and each handle was drawn
pub record AreSentOnce (next : ℕ) (es : List TurnEvent) : Type 0 where
  pub ascend : IsStrictlySortedBy nat_cmp (asserted_in es)
  pub drawn : WereDrawn next (told_in es)

-- ---- what a system actor takes

-- the turn of system actor a over its first batch b in w, after these events of the batch
abbrev pub turning_after : ℕ → Batch → List Event → WorldState → Turning
turning_after a b es w =
    all_turned (behaviour_of w.schema w.bindings w.watches a) a b.from es
    (begin_turn a (record w { table = popped a w.table }))
