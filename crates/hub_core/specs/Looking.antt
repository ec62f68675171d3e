-- Of whom it isn't known that no more is held and waits for them than may be; what each kind of step makes of that.
use Rattle.std.specs.Prelude.{◌≡◌, ◌≢◌, ℕ, ◌-◌, ◌==◌, nat_lt, List, [], Bool, false, None, if◌then◌else◌}
use Rattle.std.specs.List.{list_any}
use Rattle.ac_world.specs.declared.acts.Act.{Act}
use Rattle.ac_world.specs.declared.acts.Act.TheVariants as act
use Rattle.ac_world.specs.Worlds.{WorldState}
use Rattle.ac_world.specs.declared.turns.Turned.{Turned}
use Rattle.ac_world.specs.declared.turns.Turned.TheVariants.{Ran, Taken, Idle, Gone}
use Rattle.rl_ports.specs.Ports.{PortsState}
use Rattle.hub_machine.specs.State.{State}
use Rattle.hub_machine.specs.Endings.{overrun_of}
use Rattle.hub_core.specs.declared.unchecked.Unchecked.{Unchecked}
use Rattle.hub_core.specs.declared.unchecked.Unchecked.TheVariants.{Nobody, One, Waiting, All}
use Rattle.hub_core.specs.Work.{is_waited_for}

-- nobody is over a limit
abbrev pub AreWithin : State → Type 0
AreWithin s = (j : ℕ) → overrun_of j s ≡ None

-- nobody is but connection k, of which nothing is said
abbrev pub AreWithinBut : ℕ → State → Type 0
AreWithinBut k s = (j : ℕ) → j ≢ k → overrun_of j s ≡ None

-- nobody is for whom no batch waits
abbrev pub IdleAreWithin : State → Type 0
IdleAreWithin s = (j : ℕ) → is_waited_for j s ≡ false → overrun_of j s ≡ None

-- nobody is, but those that are left to be looked at; faults and the stop have no part in it
abbrev pub AreLeft : Unchecked → WorldState → List (ℕ × PortsState) → Type 0
AreLeft Nobody w names = AreWithin (record { world = w; connections = names; faults = []; stopped = false })
AreLeft (One k) w names = AreWithinBut k (record { world = w; connections = names; faults = []; stopped = false })
AreLeft Waiting w names = IdleAreWithin (record { world = w; connections = names; faults = []; stopped = false })
AreLeft All w names = Unit {0}

-- ---- what is left

abbrev pub and_one : ℕ → Unchecked → Unchecked
and_one k Nobody = One k
and_one k (One j) = if j == k then One k else All
and_one k Waiting = All
and_one k All = All

-- all for whom a batch waits
abbrev pub and_waiting : Unchecked → Unchecked
and_waiting Nobody = Waiting
and_waiting (One k) = All
and_waiting Waiting = Waiting
and_waiting All = All

-- an act that is neither at the gatekeeper nor at a dataspace, and takes nothing back, waits for a connection
abbrev pub is_at_connection : Act → Bool
is_at_connection (act.Assert target entity v) = nat_lt 8 target
is_at_connection (act.Retract handle) = false
is_at_connection (act.Message target entity v) = nat_lt 8 target
is_at_connection (act.Sync target entity peer) = nat_lt 8 target

-- connection k did these acts
abbrev pub and_acted : ℕ → List Act → Unchecked → Unchecked
and_acted k acts u = if list_any is_at_connection acts then All else and_one k u

-- an actor's turn, by what became of it: a system actor's adds to what waits, and changes nothing else of a connection;
-- a connection's is its own; and where none was taken nothing changed
abbrev pub and_turned : ℕ → Turned → Unchecked → Unchecked
and_turned a (Ran spreads) u = and_waiting u
and_turned a (Taken b) u = and_one (a - 16) u
and_turned a Idle u = u
and_turned a Gone u = u
