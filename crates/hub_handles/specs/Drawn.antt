-- The handles that a state has: of its rows, of the events that wait, of what actors have got and keep, and of what
-- connections name. Each of them was drawn: it is below the next handle.
use Rattle.std.specs.Prelude.{◌≡◌, ℕ, ◌<◌, List, [], ◌∷◌, Some}
use Rattle.std.specs.List.{AllByRecursion, flat_map}
use Rattle.std.specs.Map.{keys_of, values_of}
use Rattle.pv_value.specs.Plain.{Plain}
use Rattle.ac_table.specs.declared.batches.Event.{Event}
use Rattle.ac_table.specs.declared.batches.Event.TheVariants.{Assert, Retract, Message, Sync}
use Rattle.ac_table.specs.Tables.{Actor, find_actor, handles}
use Rattle.ac_world.specs.Turns.{handle_for}
use Rattle.ac_world.specs.Worlds.{resident_of, held_by, entry_of}
use Rattle.rl_ports.specs.declared.ports.Inbound.{Inbound}
use Rattle.rl_ports.specs.declared.ports.Inbound.TheVariants.{Row, Refused}
use Rattle.rl_ports.specs.Ports.{PortsState}
use Rattle.hub_machine.specs.State.{State}
use Rattle.hub_laws.specs.Standing.{events_of}

-- the handle of which an event tells
abbrev pub handle_by : Event → List ℕ
handle_by (Assert h entity v) = h ∷ []
handle_by (Retract h entity) = h ∷ []
handle_by (Message entity v) = []
handle_by (Sync entity peer) = []

abbrev pub handles_in : List Event → List ℕ
handles_in es = flat_map handle_by es

-- the handle of the row for which a handle of a connection's own stands, where there is one
abbrev pub row_by : Inbound → List ℕ
row_by (Row h) = h ∷ []
row_by Refused = []

abbrev pub rows_named : PortsState → List ℕ
rows_named ports = flat_map row_by (values_of ports.handles)

-- each is below the next handle
abbrev pub WereDrawn : ℕ → List ℕ → Type 0
WereDrawn next hs = AllByRecursion (λ h. h < next) hs

pub record AreDrawn (s : State) : Type 0 where
  pub rows : WereDrawn s.world.table.next (handles s.world.table.rows)
  pub waiting : (a : ℕ) (x : Actor) → find_actor a s.world.table.actors ≡ Some x
      → WereDrawn s.world.table.next (handles_in (events_of x.inbox))
  -- what a system actor has got, and the handle that it keeps for a key that it wants
  pub got : (a : ℕ) → a < 17 → WereDrawn s.world.table.next (keys_of (resident_of a s.world).got)
  pub kept : (a : ℕ) (key : Plain) (h : ℕ) → a < 17 → handle_for key (resident_of a s.world).handles ≡ Some h
      → h < s.world.table.next
  -- what a connection has got, and the rows for which its own handles stand
  pub held : (a : ℕ) → WereDrawn s.world.table.next (keys_of (held_by a s.world))
  pub named : (k : ℕ) (ports : PortsState) → entry_of k s.connections ≡ Some ports
      → WereDrawn s.world.table.next (rows_named ports)
