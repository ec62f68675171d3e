-- Who has something to do: whose step isn't answered by Idle; and what of a step and of the state that it leaves tells
-- so.
use Rattle.std.specs.Prelude.{◌≡◌, ◌≢◌, ℕ, ◌≤◌, ◌⊎◌, ◌==◌, ◌||◌, Bool, true, false, nat_le, Option, None, Some, is_some}
use Rattle.ac_table.specs.Tables.{first_batch, lowest}
use Rattle.ac_world.specs.Worlds.{actor_of, entry_of, is_system}
use Rattle.hub_machine.specs.Limits.{worn_handle}
use Rattle.hub_machine.specs.State.{State}
use Rattle.hub_machine.specs.Machine.{step}
use Rattle.hub_machine.specs.declared.steps.Step.{Step}
use Rattle.hub_machine.specs.declared.steps.Step.TheVariants.{Bind, Watch, Arrive, Packet, Bad, Close, Turn, Work, Stop}
use Rattle.hub_machine.specs.declared.steps.Reply.TheVariants.{Idle}

-- ---- who has something to do

-- a turn of connection k does nothing
abbrev pub IsIdle : ℕ → State → Type 0
IsIdle k s = (step s (Turn (actor_of k))).reply ≡ Idle

abbrev pub HasTurn : ℕ → State → Type 0
HasTurn k s = (step s (Turn (actor_of k))).reply ≢ Idle

abbrev pub HasWork : State → Type 0
HasWork s = (step s Work).reply ≢ Idle

-- ---- what tells so

-- no handle is left
abbrev pub is_used_up : State → Bool
is_used_up s = nat_le worn_handle s.world.table.next

-- a batch waits for connection k, its peer is still to be told a fault, or no handle is left
abbrev pub is_waited_for : ℕ → State → Bool
is_waited_for k s =
    is_some (first_batch (actor_of k) s.world.table) || is_some (entry_of k s.faults) || is_used_up s

abbrev pub is_some_system : Option ℕ → Bool
is_some_system None = false
is_some_system (Some a) = is_system a

-- a batch waits for a system actor, the server is to stop, or no handle is left
abbrev pub is_work_left : State → Bool
is_work_left s = is_some_system (lowest s.world.table) || s.stopped || is_used_up s

-- the step closes connection k
abbrev pub closes : ℕ → Step → Bool
closes k (Bind b) = false
closes k (Watch x) = false
closes k (Arrive space) = false
closes k (Packet j t) = false
closes k (Bad j f) = false
closes k (Close j) = j == k
closes k (Turn a) = false
closes k Work = false
closes k Stop = false

-- ---- the laws, whatever the state and the step

-- a connection that had nothing to do, and has something to do after a step, is closed by it or waited for then
abbrev pub ConnectionsAreSeen : Type 0
ConnectionsAreSeen =
    (s : State) (e : Step) (k : ℕ) → 1 ≤ k → IsIdle k s → HasTurn k (step s e).state
    → (closes k e ≡ true) ⊎ (is_waited_for k (step s e).state ≡ true)

-- where work does something, it is left
abbrev pub WorkIsSeen : Type 0
WorkIsSeen = (s : State) → HasWork s → is_work_left s ≡ true
