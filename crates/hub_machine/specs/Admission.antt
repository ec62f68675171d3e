-- The admission of a packet: its dialect is looked at first, then the number of its events, and then they are checked in
-- order, each as those before it would leave what is counted; the first cause against one of them refuses all. An event
-- at a released export, or with a reference to one, is stale: it does nothing, but its handle comes into use. Syndicate
-- Protocol, "turns"; the limits and the release of exports are this server's own.
use Rattle.std.specs.Prelude.{ℕ, ◌+◌, ◌-◌, ◌^◌, min, List, [], ◌∷◌, ◌++◌, length, not, Option, Some, None}
use Rattle.std.specs.Prelude.{Bool, true, false, ◌&&◌, unwrap_or, option_map, option_and_then, if◌then◌else◌}
use Rattle.pv_value.specs.Plain.{Plain, embedded}
use Rattle.pv_value.specs.Weight.{weight}
use Rattle.pv_value.specs.Depth.{depth}
use Rattle.ac_table.specs.declared.batches.Row.{Row as TableRow}
use Rattle.ac_table.specs.Tables.{find_row}
use Rattle.ac_world.specs.declared.acts.Act.{Act}
use Rattle.ac_world.specs.declared.acts.Act.TheVariants as act
use Rattle.ac_table.specs.declared.loads.Load.{Load}
use Rattle.ac_table.specs.Sums.{top, top_load, both, one}
use Rattle.ac_world.specs.Sums.{backlog, row_weight}
use Rattle.ac_table.specs.Tables.{is_live}
use Rattle.ac_world.specs.Worlds.{WorldState, entry_of, with_entry, actor_of, is_system}
use Rattle.rl_packet.specs.declared.packets.Event.{Event}
use Rattle.rl_packet.specs.declared.packets.Event.TheVariants.{Assert, Retract, Message, Sync}
use Rattle.rl_packet.specs.declared.packets.TurnEvent.{TurnEvent}
use Rattle.rl_packet.specs.declared.packets.Turn.{Turn}
use Rattle.rl_packet.specs.declared.packets.Dialect.{Dialect}
use Rattle.rl_packet.specs.declared.packets.Dialect.TheVariants.{Newer, Older}
use Rattle.sr_caveat.specs.declared.caps.Cap.{Cap}
use Rattle.sr_caveat.specs.Caps.{cap_of}
use Rattle.sr_pass.specs.Passing.{passed}
use Rattle.rl_wire.specs.Crossing.{whole_in, fault_in, references_fault}
use Rattle.rl_wire.specs.declared.faults.WireFault.{WireFault}
use Rattle.rl_wire.specs.declared.faults.WireFault.TheVariants as wire
use Rattle.hub_machine.specs.Limits.{most_events, most_handles, most_rows_weight, most_backlog, most_backlog_weight}
use Rattle.hub_machine.specs.Faults.{Fault, BadPacket, UnknownOid, HandleInUse, UnknownHandle, Limit, ◌<|>◌, where_it_is, over}
use Rattle.rl_ports.specs.declared.ports.Inbound.{Inbound}
use Rattle.rl_ports.specs.declared.ports.Inbound.TheVariants.{Row, Refused}
use Rattle.rl_ports.specs.Ports.{PortsState, speaking, inbound_of, is_in_use, taken_into_use, freed}
use Rattle.rl_ports.specs.Ports.{Standing, current, released, never, standing}

-- What the events so far do, the weight of each row that they make, what the connection names after them, how much its
-- rows weigh and how much of it waits for the system's actors, and the handle that is drawn next. Counts and sums of
-- weights end at the greatest 64-bit number.
pub record Admitting : Type 0 where
  pub acts : List Act
  pub made : List (ℕ × ℕ)
  pub ports : PortsState
  pub rows : ℕ
  pub load : Load
  pub next : ℕ

-- before the first event of connection k
abbrev pub before_all : ℕ → PortsState → WorldState → Admitting
before_all k ports w = record {
  acts = [];
  made = [];
  ports = ports;
  rows = top (row_weight (actor_of k) w);
  load = top_load (backlog (actor_of k) w);
  next = w.table.next;
}

-- ---- what is counted

abbrev pub weighed : Plain → ℕ
weighed v = top (weight v)

abbrev pub nested : Plain → ℕ
nested v = min (depth v) (2 ^ 32 - 1)

-- the rows with one more that weighs so much
abbrev pub rows_with : ℕ → Admitting → ℕ
rows_with w x = top (x.rows + w)

-- whether events at an object wait for one of the system's actors
abbrev pub waits_at : Cap → WorldState → Bool
waits_at to w = is_system to.actor && is_live to.actor w.table

-- what waits for them, with one event more that weighs so much
abbrev pub load_with : WorldState → Cap → ℕ → Admitting → Load
load_with w to n x = if waits_at to w then top_load (both x.load (one n)) else x.load

-- what is inside an embedded value
abbrev pub inside : Plain → Plain
inside (embedded x) = x
inside v = v

-- ---- causes, the first that holds before the others; values are as the server keeps them

-- why a value can't come in at connection k: a reference in it names an export that never was, has too many caveats or
-- is too heavy with them; or as the server keeps it, the value is too heavy or too deep
abbrev pub fault_of : WireFault → Option Fault
fault_of (wire.UnknownOid n) = Some (UnknownOid n)
fault_of (wire.Limit which n) = Some (Limit which n)
fault_of wire.NoMemory = None

abbrev pub value_cause : ℕ → Plain → Admitting → Option Fault
value_cause k v x = option_and_then fault_of (fault_in x.ports.exports k v)

-- the same of its references alone
abbrev pub references_cause : Plain → Admitting → Option Fault
references_cause v x = option_and_then fault_of (references_fault x.ports.exports v)

-- a value of the connection's, as the server keeps it; nothing where it is stale
abbrev pub kept : ℕ → Plain → Admitting → Option Plain
kept k v x = whole_in x.ports.exports k v

-- what an export's caveats let pass of a value that is sent through it; guards judge by the world's schema
abbrev pub let_through : WorldState → Cap → Plain → Option Plain
let_through w to v = passed w.schema to.caveats v

-- what gets through of a value of the connection's
abbrev pub through : ℕ → WorldState → Cap → Plain → Admitting → Option Plain
through k w to v x = option_and_then (let_through w to) (kept k v x)

-- the peer of a sync
abbrev pub peer_kept : ℕ → Plain → Admitting → Option Plain
peer_kept k peer x = option_map inside (kept k peer x)

abbrev pub load_cause : Load → Option Fault
load_cause l = over most_backlog 10 l.count <|> over most_backlog_weight 11 l.weight

abbrev pub handle_cause : ℕ → Admitting → Option Fault
handle_cause h x = where_it_is (is_in_use h x.ports) (HandleInUse h)

-- what would be counted of the row; where the value is stale, or the caveats refused it, there is none
abbrev pub row_cause : WorldState → Cap → Option Plain → Admitting → Option Fault
row_cause w to None x = None
row_cause w to (Some v) x =
    over most_rows_weight 5 (rows_with (weighed v) x) <|> load_cause (load_with w to (weighed v) x)

-- the handle of an assertion, and how many would be in use with it
abbrev pub taking_cause : ℕ → Admitting → Option Fault
taking_cause h x = handle_cause h x <|> over most_handles 4 (top (length x.ports.handles + 1))

abbrev pub assertion_cause : ℕ → WorldState → Cap → Plain → ℕ → Admitting → Option Fault
assertion_cause k w to v h x = value_cause k v x <|> taking_cause h x <|> row_cause w to (through k w to v x) x

abbrev pub retraction_cause : ℕ → Admitting → Option Fault
retraction_cause h x = where_it_is (not (is_in_use h x.ports)) (UnknownHandle h)

-- what would wait; a message that is stale, or that the caveats refused, is dropped
abbrev pub said_cause : WorldState → Cap → Option Plain → Admitting → Option Fault
said_cause w to None x = None
said_cause w to (Some v) x = load_cause (load_with w to (weighed v) x)

abbrev pub message_cause : ℕ → WorldState → Cap → Plain → Admitting → Option Fault
message_cause k w to v x = value_cause k v x <|> said_cause w to (through k w to v x) x

-- a sync has no value that caveats could look at; it weighs what its peer weighs, without a node for the embedding
abbrev pub sync_cause : ℕ → WorldState → Cap → Plain → Admitting → Option Fault
sync_cause k w to peer x = value_cause k peer x <|> said_cause w to (peer_kept k peer x) x

abbrev pub event_cause : ℕ → WorldState → Cap → Event → Admitting → Option Fault
event_cause k w to (Assert v h) x = assertion_cause k w to v h x
event_cause k w to (Retract h) x = retraction_cause h x
event_cause k w to (Message v) x = message_cause k w to v x
event_cause k w to (Sync peer) x = sync_cause k w to peer x

-- of an event at a released export the references and the handle alone are looked at
abbrev pub stale_cause : Event → Admitting → Option Fault
stale_cause (Assert v h) x = references_cause v x <|> taking_cause h x
stale_cause (Retract h) x = retraction_cause h x
stale_cause (Message v) x = references_cause v x
stale_cause (Sync peer) x = references_cause peer x

-- where an event is: at an object, at one that was released, or at none that ever was
pub data Aim : Type 0 where
  object : (to : Cap) → Aim
  stale : Aim
  unknown : Aim

-- an export is a reference; a value that isn't one's doesn't come about
abbrev pub aim_of : Option Cap → Aim
aim_of (Some to) = object to
aim_of None = unknown

abbrev pub aimed : Standing → Aim
aimed (current r) = aim_of (cap_of r)
aimed released = stale
aimed never = unknown

-- where an event at the export of this number is
abbrev pub aim_at : ℕ → PortsState → Aim
aim_at oid p = aimed (standing oid p.exports)

abbrev pub cause_at : ℕ → WorldState → Aim → TurnEvent → Admitting → Option Fault
cause_at k w (object to) e x = event_cause k w to e.event x
cause_at k w stale e x = stale_cause e.event x
cause_at k w unknown e x = Some (UnknownOid e.oid)

abbrev pub cause_of : ℕ → WorldState → TurnEvent → Admitting → Option Fault
cause_of k w e x = cause_at k w (aim_at e.oid x.ports) e x

-- ---- what an event leaves

-- a value that gets through makes a row under the next handle; of one that doesn't the handle alone is noted
abbrev pub after_assertion : WorldState → Cap → Option Plain → ℕ → Admitting → Admitting
after_assertion w to None h x = record x { ports = taken_into_use h Refused x.ports }
after_assertion w to (Some v) h x = record {
  acts = x.acts ++ act.Assert to.actor to.entity v ∷ [];
  made = with_entry x.next (weighed v) x.made;
  ports = taken_into_use h (Row x.next) x.ports;
  rows = rows_with (weighed v) x;
  load = load_with w to (weighed v) x;
  next = x.next + 1;
}

abbrev pub weight_of_row : Option TableRow → ℕ
weight_of_row None = 0
weight_of_row (Some r) = weighed r.value

-- how much the row of a handle weighs: of one made by this packet, or of one that stands
abbrev pub row_weighs : ℕ → WorldState → Admitting → ℕ
row_weighs n w x = unwrap_or (entry_of n x.made) (weight_of_row (find_row n w.table.rows))

abbrev pub after_retraction : ℕ → Option Inbound → WorldState → Admitting → Admitting
after_retraction h None w x = x
after_retraction h (Some Refused) w x = record x { ports = freed h x.ports }
after_retraction h (Some (Row n)) w x = record x {
  acts = x.acts ++ act.Retract n ∷ [];
  ports = freed h x.ports;
  rows = x.rows - row_weighs n w x;
}

abbrev pub after_message : WorldState → Cap → Option Plain → Admitting → Admitting
after_message w to None x = x
after_message w to (Some v) x =
    record x { acts = x.acts ++ act.Message to.actor to.entity v ∷ []; load = load_with w to (weighed v) x }

abbrev pub after_sync : WorldState → Cap → Option Plain → Admitting → Admitting
after_sync w to None x = x
after_sync w to (Some peer) x =
    record x { acts = x.acts ++ act.Sync to.actor to.entity peer ∷ []; load = load_with w to (weighed peer) x }

abbrev pub after_event : ℕ → WorldState → Cap → Event → Admitting → Admitting
after_event k w to (Assert v h) x = after_assertion w to (through k w to v x) h x
after_event k w to (Retract h) x = after_retraction h (inbound_of h x.ports) w x
after_event k w to (Message v) x = after_message w to (through k w to v x) x
after_event k w to (Sync peer) x = after_sync w to (peer_kept k peer x) x

-- an event at a released export says nothing; its handle is noted, or given back with its row
abbrev pub after_stale : WorldState → Event → Admitting → Admitting
after_stale w (Assert v h) x = record x { ports = taken_into_use h Refused x.ports }
after_stale w (Retract h) x = after_retraction h (inbound_of h x.ports) w x
after_stale w (Message v) x = x
after_stale w (Sync peer) x = x

abbrev pub after_at : ℕ → WorldState → Aim → Event → Admitting → Admitting
after_at k w (object to) e x = after_event k w to e x
after_at k w stale e x = after_stale w e x
after_at k w unknown e x = x

abbrev pub after : ℕ → WorldState → TurnEvent → Admitting → Admitting
after k w e x = after_at k w (aim_at e.oid x.ports) e.event x

-- ---- all events

-- what becomes of a packet
pub data Admitted : Type 0 where
  refused : (f : Fault) → Admitted
  admitted : (x : Admitting) → Admitted

abbrev pub unless : Option Fault → Admitted → Admitted
unless None d = d
unless (Some f) d = refused f

abbrev pub all_admitted : ℕ → WorldState → List TurnEvent → Admitting → Admitted
all_admitted k w [] x = admitted x
all_admitted k w (e ∷ es) x = unless (cause_of k w e x) (all_admitted k w es (after k w e x))

-- the number of events is looked at before them
abbrev pub admission : ℕ → PortsState → WorldState → List TurnEvent → Admitted
admission k ports w es = unless (over most_events 3 (length es)) (all_admitted k w es (before_all k ports w))

-- a turn's dialect and a connection's differ
abbrev pub differ : Option Dialect → Option Dialect → Bool
differ (Some Newer) (Some Older) = true
differ (Some Older) (Some Newer) = true
differ d e = false

-- the dialect is looked at before all else; a connection that has none gets that of the turn
abbrev pub turn_admission : ℕ → PortsState → WorldState → Turn → Admitted
turn_admission k ports w t =
    unless (where_it_is (differ t.dialect ports.dialect) BadPacket)
    (admission k (speaking t.dialect ports) w t.events)
