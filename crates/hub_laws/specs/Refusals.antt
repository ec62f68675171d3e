-- What a refusal leaves, and who ends in a step.
use Rattle.std.specs.Prelude.{◌≡◌, ℕ, ◌-◌, ◌<◌, ◌==◌, ◌&&◌, ◌⊎◌, Bool, true, false, List, [], Option, Some, None, filter}
use Rattle.std.specs.Prelude.{if◌then◌else◌}
use Rattle.std.specs.List.{AllByRecursion, list_any}
use Rattle.ac_table.specs.declared.batches.Row.{Row}
use Rattle.ac_table.specs.Tables.{is_live, lowest}
use Rattle.ac_world.specs.declared.spreads.Spread.{Spread as SpreadOf}
use Rattle.ac_world.specs.declared.turns.Turned.{Turned}
use Rattle.ac_world.specs.declared.turns.Turned.TheVariants as turned
use Rattle.ac_table.specs.Sums.{top_load}
use Rattle.ac_world.specs.Sums.{deliveries}
use Rattle.ac_world.specs.Turns.{turn}
use Rattle.ac_world.specs.Worlds.{actor_of, entry_of, is_system}
use Rattle.hub_machine.specs.Limits.{most_deliveries, most_deliveries_weight}
use Rattle.hub_machine.specs.declared.faults.Fault.{Fault}
use Rattle.hub_machine.specs.declared.faults.Fault.TheVariants.{Overrun, Spread}
use Rattle.hub_machine.specs.Endings.{overrun_by}
use Rattle.hub_machine.specs.State.{State}
use Rattle.hub_machine.specs.declared.steps.Step.{Step}
use Rattle.hub_machine.specs.declared.steps.Step.TheVariants.{Bind, Watch, Arrive, Packet, Bad, Close, Turn, Work, Stop}
use Rattle.hub_machine.specs.declared.steps.Reply.{Reply}
use Rattle.hub_machine.specs.declared.steps.Reply.TheVariants.{Refused}

-- the connection whose step it is
abbrev pub whose : Step → Option ℕ
whose (Packet k es) = Some k
whose (Bad k f) = Some k
whose (Close k) = Some k
whose (Turn a) = if is_system a then None else Some (a - 16)
whose (Bind b) = None
whose (Watch x) = None
whose (Arrive space) = None
whose Work = None
whose Stop = None

-- ---- a refusal

-- the rows of those who are live in the state
abbrev pub of_the_live : State → List Row → List Row
of_the_live s rows = filter (λ r. is_live r.owner s.world.table) rows

-- from s to t connection k is refused for f
pub record LeavesNothing (k : ℕ) (f : Fault) (s t : State) : Type 0 where
  pub ended : is_live (actor_of k) t.world.table ≡ false
  -- it is to be told so
  pub fault : entry_of k t.faults ≡ Some f
  pub no_handle : t.world.table.next ≡ s.world.table.next
  -- the rows that stood stand, but those of connections that ended: its own, and those that the step's end ended
  pub rows : t.world.table.rows ≡ of_the_live t s.world.table.rows
  pub no_row : AllByRecursion (λ r. (r.owner == actor_of k) ≡ false) t.world.table.rows

-- a connection is refused in a step of its own alone
abbrev pub IsLeft : Option ℕ → Fault → State → State → Type 0
IsLeft None f s t = ⊥
IsLeft (Some k) f s t = LeavesNothing k f s t

-- ---- who ends

-- the step closes connection k, or refuses it
abbrev pub IsDismissed : ℕ → Step → Reply → Type 0
IsDismissed k e r = (e ≡ Close k) ⊎ ((whose e ≡ Some k) × ((f : Fault) × (r ≡ Refused f)))

abbrev pub spreads_in : Turned → List SpreadOf
spreads_in (turned.Ran xs) = xs
spreads_in (turned.Taken b) = []
spreads_in turned.Idle = []
spreads_in turned.Gone = []

abbrev pub spreads_by : Option ℕ → State → List SpreadOf
spreads_by None s = []
spreads_by (Some a) s = spreads_in (turn a s.world).turned

-- whom the turn of a step tells to end, each with the weight of what would be wanted or sent
abbrev pub spreads_of : Step → State → List SpreadOf
spreads_of (Turn a) s = spreads_by (Some a) s
spreads_of Work s = spreads_by (lowest s.world.table) s
spreads_of (Bind b) s = []
spreads_of (Watch x) s = []
spreads_of (Arrive space) s = []
spreads_of (Packet k es) s = []
spreads_of (Bad k f) s = []
spreads_of (Close k) s = []
spreads_of Stop s = []

abbrev pub is_named : List SpreadOf → SpreadOf → Bool
is_named xs x = list_any (λ y. (y.actor == x.actor) && (y.weight == x.weight)) xs

-- the actor spread, by so much
abbrev pub IsSpread : List SpreadOf → ℕ → Fault → Type 0
IsSpread xs a f = (w : ℕ) × (is_named xs (record { actor = a; weight = w }) ≡ true) × (f ≡ Spread w)

-- too much is held and waits
abbrev pub IsOverrun : Fault → Type 0
IsOverrun f = (n : ℕ) × (((f ≡ Overrun 1 n) × (most_deliveries < n)) ⊎ ((f ≡ Overrun 2 n) × (most_deliveries_weight < n)))

-- in s too much is held and waits for connection k: it is told what was counted or weighed
abbrev pub IsOver : ℕ → State → Fault → Type 0
IsOver k s f = overrun_by (top_load (deliveries (actor_of k) s.world)) ≡ Some f

-- connection k is told a fault for which a step's end ends it
abbrev pub HasFailed : List SpreadOf → ℕ → State → Type 0
HasFailed xs k t = (f : Fault) × (entry_of k t.faults ≡ Some f) × (IsSpread xs (actor_of k) f ⊎ IsOverrun f)
