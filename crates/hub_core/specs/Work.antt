-- Who has something to do, by classes: class 0 is that of the system's actors, and each of the others that of the
-- connections whose numbers leave the same rest.
use Rattle.std.specs.Prelude.{ℕ, ◌+◌, ◌-◌, ◌%◌, ◌==◌, nat_le, Bool, false, ◌||◌, ◌&&◌, Option, Some, None, is_some}
use Rattle.std.specs.Prelude.{List, filter, if◌then◌else◌}
use Rattle.std.specs.List.{list_any}
use Rattle.std.specs.Map.{keys_of}
use Rattle.ac_table.specs.Tables.{first_batch, lowest}
use Rattle.ac_world.specs.Worlds.{actor_of, entry_of, is_system}
use Rattle.hub_machine.specs.Limits.{worn_handle}
use Rattle.hub_machine.specs.State.{State}

abbrev pub class_of : ℕ → ℕ
class_of k = 1 + k % 63

-- a batch waits for connection k
abbrev pub is_waited_for : ℕ → State → Bool
is_waited_for k s = is_some (first_batch (actor_of k) s.world.table)

-- the connections with names for which a batch waits, ascending
abbrev pub waited_for : State → List ℕ
waited_for s = filter (λ k. is_waited_for k s) (keys_of s.connections)

-- the connection whose actor this is, if it is one that has names
abbrev pub named_by : ℕ → State → Option ℕ
named_by a s = if nat_le 16 a && is_some (entry_of (a - 16) s.connections) then Some (a - 16) else None

-- a batch waits for a connection of class p that has names, as each live one has
abbrev pub is_in_connections : ℕ → State → Bool
is_in_connections p s = list_any (λ k. is_waited_for k s && class_of k == p) (keys_of s.connections)

-- a connection of class p is to be told why it ended
abbrev pub is_in_faults : ℕ → State → Bool
is_in_faults p s = list_any (λ k. class_of k == p) (keys_of s.faults)

-- a batch waits for this actor, if there is one, of the system's
abbrev pub is_system_due : Option ℕ → Bool
is_system_due None = false
is_system_due (Some a) = is_system a

-- a batch waits for an actor of the system's, or they are to stop
abbrev pub is_work_left : State → Bool
is_work_left s = s.stopped || is_system_due (lowest s.world.table)

-- something is to be done in class p: there, or everywhere where the numbers of handles are used up
abbrev pub has_work : ℕ → State → Bool
has_work p s =
    nat_le worn_handle s.world.table.next
    || (p == 0 && is_work_left s) || is_in_faults p s || is_in_connections p s
