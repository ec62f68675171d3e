-- What the server's state is: the world, what each live connection names by numbers of its own, the faults of which
-- connections are still to be told, and whether the server is to stop.
use Rattle.std.specs.Prelude.{ℕ, List, [], Bool, false, Option, None, is_some, if◌then◌else◌}
use Rattle.ps_schema.specs.declared.Definition.{Definition}
use Rattle.ac_table.specs.Tables.{is_live}
use Rattle.ac_world.specs.Worlds.{WorldState, beginning, entry_of, actor_of}
use Rattle.hub_machine.specs.Faults.{Fault}
use Rattle.rl_ports.specs.Ports.{PortsState}

-- both lists are by the numbers of connections, which count from 1
pub record State : Type 0 where
  pub world : WorldState
  pub connections : List (ℕ × PortsState)
  pub faults : List (ℕ × Fault)
  pub stopped : Bool

-- the server at its beginning, where guards judge by this schema
abbrev pub opening : List Definition → State
opening ds = record { world = beginning ds; connections = []; faults = []; stopped = false }

-- what a live connection names
abbrev pub ports_of : ℕ → State → Option PortsState
ports_of k s = if is_live (actor_of k) s.world.table then entry_of k s.connections else None

-- whether a connection is there
abbrev pub is_there : ℕ → State → Bool
is_there k s = is_some (ports_of k s)
