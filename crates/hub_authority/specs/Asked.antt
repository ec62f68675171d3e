-- What the events of a packet ask for, by the exports of the connection that sends it.
use Rattle.std.specs.Prelude.{ℕ, ◌+◌, ◌==◌, ◌&&◌, Bool, true, false, not, List, [], ◌∷◌, ◌++◌, filter}
use Rattle.std.specs.Prelude.{Option, Some, None, is_some, option_and_then, if◌then◌else◌}
use Rattle.std.specs.List.{list_any, flat_map}
use Rattle.pv_value.specs.Plain.{Plain}
use Rattle.ps_schema.specs.declared.Definition.{Definition}
use Rattle.sr_caveat.specs.declared.caps.Cap.{Cap}
use Rattle.sr_caveat.specs.Caps.{cap_of}
use Rattle.sr_pass.specs.Passing.{passed}
use Rattle.ac_table.specs.declared.batches.Row.{Row as TableRow}
use Rattle.ac_table.specs.declared.batches.Event.{Event as Told}
use Rattle.ac_table.specs.declared.batches.Event.TheVariants as told
use Rattle.ac_world.specs.Worlds.{actor_of}
use Rattle.rl_packet.specs.declared.packets.Event.{Event}
use Rattle.rl_packet.specs.declared.packets.Event.TheVariants.{Assert, Retract, Message, Sync}
use Rattle.rl_packet.specs.declared.packets.TurnEvent.{TurnEvent}
use Rattle.rl_packet.specs.Holding.{retracted_by}
use Rattle.rl_ports.specs.declared.ports.Inbound.{Inbound}
use Rattle.rl_ports.specs.declared.ports.Inbound.TheVariants.{Row, Refused}
use Rattle.rl_ports.specs.Ports.{PortsState, ExportTable, inbound_of, export_of}
use Rattle.rl_wire.specs.Crossing.{whole_in}

-- ---- rows

-- whether one of the events takes back what stands under the handle
abbrev pub takes_back : List TurnEvent → ℕ → Bool
takes_back es h = list_any (retracted_by h) es

-- the reference that an event is at: an export in force; an event at a released one asks for nothing
abbrev pub cap_under : ExportTable → ℕ → Option Cap
cap_under exports oid = option_and_then cap_of (export_of oid exports)

-- what the caveats of the reference let pass of a value that connection k sends through it, where no export is released
-- that it names; guards judge by a schema
abbrev pub let_in : List Definition → ExportTable → ℕ → Cap → Plain → Option Plain
let_in ds exports k to v = option_and_then (passed ds to.caveats) (whole_in exports k v)

-- the row of a value that gets through to an object, where no later event takes it back
abbrev pub row_of : ℕ → ℕ → Cap → Bool → Option Plain → List TableRow
row_of k next to gone None = []
row_of k next to true (Some v) = []
row_of k next to false (Some v) = record {
  handle = next;
  owner = actor_of k;
  facet = 0;
  target = to.actor;
  entity = to.entity;
  value = v;
} ∷ []

abbrev pub row_asked : List Definition → ExportTable → ℕ → ℕ → Option Cap → Event → List TurnEvent → List TableRow
row_asked ds exports k next (Some to) (Assert v h) later =
    row_of k next to (takes_back later h) (let_in ds exports k to v)
row_asked ds exports k next (Some to) (Retract h) later = []
row_asked ds exports k next (Some to) (Message v) later = []
row_asked ds exports k next (Some to) (Sync peer) later = []
row_asked ds exports k next None e later = []

-- each assertion draws a handle of which the value gets through
abbrev pub next_after : List Definition → ExportTable → ℕ → Option Cap → Event → ℕ → ℕ
next_after ds exports k (Some to) (Assert v h) next = if is_some (let_in ds exports k to v) then next + 1 else next
next_after ds exports k (Some to) (Retract h) next = next
next_after ds exports k (Some to) (Message v) next = next
next_after ds exports k (Some to) (Sync peer) next = next
next_after ds exports k None e next = next

-- the rows that the events ask for, from the next handle on
abbrev pub rows_asked : List Definition → ExportTable → ℕ → ℕ → List TurnEvent → List TableRow
rows_asked ds exports k next [] = []
rows_asked ds exports k next (e ∷ es) =
    row_asked ds exports k next (cap_under exports e.oid) e.event es
    ++ rows_asked ds exports k (next_after ds exports k (cap_under exports e.oid) e.event next) es

-- whether what a handle stands for is the row under n
abbrev pub stands_for : ℕ → Option Inbound → Bool
stands_for n None = false
stands_for n (Some Refused) = false
stands_for n (Some (Row m)) = m == n

-- whether the event takes back a handle that stood for the row under n before the packet
abbrev pub takes_row : PortsState → ℕ → Event → Bool
takes_row ports n (Retract h) = stands_for n (inbound_of h ports)
takes_row ports n (Assert v h) = false
takes_row ports n (Message v) = false
takes_row ports n (Sync peer) = false

-- the rows that stay: those of others, and those of the connection that no event takes back
abbrev pub rows_left : ℕ → PortsState → List TurnEvent → List TableRow → List TableRow
rows_left k ports es rows =
    filter (λ r. not ((r.owner == actor_of k) && list_any (λ e. takes_row ports r.handle e.event) es)) rows

-- ---- messages

-- what gets through to an object, where it is an actor's
abbrev pub message_to : ℕ → Cap → Option Plain → List Told
message_to b to None = []
message_to b to (Some v) = if to.actor == b then told.Message to.entity v ∷ [] else []

abbrev pub message_asked : List Definition → ExportTable → ℕ → ℕ → Option Cap → Event → List Told
message_asked ds exports k b (Some to) (Message v) = message_to b to (let_in ds exports k to v)
message_asked ds exports k b (Some to) (Assert v h) = []
message_asked ds exports k b (Some to) (Retract h) = []
message_asked ds exports k b (Some to) (Sync peer) = []
message_asked ds exports k b None e = []

-- the messages to actor b for which the events ask, in order
abbrev pub messages_asked : List Definition → ExportTable → ℕ → ℕ → List TurnEvent → List Told
messages_asked ds exports k b es = flat_map (λ e. message_asked ds exports k b (cap_under exports e.oid) e.event) es

abbrev pub message_in : Told → List Told
message_in (told.Message entity v) = told.Message entity v ∷ []
message_in (told.Assert h entity v) = []
message_in (told.Retract h entity) = []
message_in (told.Sync entity peer) = []

-- the messages among events
abbrev pub messages_in : List Told → List Told
messages_in es = flat_map message_in es
