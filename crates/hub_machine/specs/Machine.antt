-- The machine: what a step makes of the state, and its reply. What actors do is the world's (`ac_world`).
use Rattle.std.specs.Prelude.{ℕ, ◌+◌, ◌-◌, List, [], Bool, true, false, ◌||◌, ◌&&◌, not, ◌==◌, nat_lt, nat_le, map}
use Rattle.std.specs.Prelude.{◌∷◌, Option, Some, None, is_none, option_and_then, unwrap_or, length, if◌then◌else◌}
use Rattle.std.specs.List.{flat_map, list_any}
use Rattle.pv_value.specs.Plain.{Plain, embedded}
use Rattle.ac_table.specs.declared.batches.Event.{Event as Told}
use Rattle.ac_table.specs.declared.batches.Event.TheVariants as told
use Rattle.ac_table.specs.declared.batches.Batch.{Batch}
use Rattle.ac_table.specs.Tables.{lowest}
use Rattle.ac_world.specs.declared.spreads.Spread.{Spread}
use Rattle.ac_world.specs.declared.turns.Turned.{Turned}
use Rattle.ac_world.specs.declared.turns.Turned.TheVariants as turned
use Rattle.sr_caveat.specs.Embedded.{has_embedded}
use Rattle.sr_caveat.specs.Caps.{Cap, cap_value, IsSound}
use Rattle.gk_sturdy.specs.declared.bound.Binding.{Binding}
use Rattle.gk_sturdy.specs.Bindings.{bound}
use Rattle.dp_pattern.specs.Written.{pattern_of}
use Rattle.lc_watch.specs.Behaviours.{is_behaviour}
use Rattle.ac_world.specs.Limits.{most_watchers}
use Rattle.ac_world.specs.declared.watched.Watched.{Watched}
use Rattle.ac_world.specs.Worlds.{binding, watching, arrived, sent, actor_of, is_system, is_space, entry_of, with_entry}
use Rattle.ac_world.specs.Worlds.{without_entry}
use Rattle.ac_world.specs.Turns.{turn}
use Rattle.rl_packet.specs.declared.packets.Event.TheVariants.{Assert, Retract, Message, Sync}
use Rattle.rl_packet.specs.declared.packets.TurnEvent.{TurnEvent}
use Rattle.rl_packet.specs.declared.packets.Turn.{Turn as TurnRecord}
use Rattle.rl_packet.specs.declared.packets.Dialect.{Dialect}
use Rattle.rl_packet.specs.declared.packets.Dialect.TheVariants.{Newer}
use Rattle.rl_packet.specs.Packets.{spoken}
use Rattle.rl_packet.specs.declared.packets.Packet.TheVariants as packet
use Rattle.ds_space.specs.References.{reference_value}
use Rattle.rl_ports.specs.declared.ports.PortsFault.{PortsFault}
use Rattle.rl_ports.specs.declared.ports.PortsFault.TheVariants.{Exports, Weight, NoMemory}
use Rattle.rl_ports.specs.Ports.{ExportTable, PortsState, ports_to, with_exports, noted, forgotten, pinned_with, swept}
use Rattle.rl_wire.specs.Crossing.{crossed_out, foreign_in, all_exported, exports_with, numbers_out, fault_out}
use Rattle.hub_machine.specs.Limits.{most_connections, last_dataspace, worn_handle, worn_connections}
use Rattle.hub_machine.specs.Faults.{Fault, Overrun, error_of}
use Rattle.rl_packet.specs.Wired.{IsTurnEvent}
use Rattle.std.specs.List.{AllByRecursion}
use Rattle.hub_machine.specs.State.{State, ports_of}
use Rattle.hub_machine.specs.Admission.{Admitted, refused, admitted, Admitting, turn_admission}
use Rattle.hub_machine.specs.Endings.{nameless, departed_for, closed, failed, finished}
use Rattle.hub_machine.specs.declared.steps.Step.{Step}
use Rattle.hub_machine.specs.declared.steps.Step.TheVariants.{Bind, Watch, Arrive, Packet, Bad, Close, Turn, Work, Stop}
use Rattle.hub_machine.specs.declared.steps.Reply.{Reply}
use Rattle.hub_machine.specs.declared.steps.Reply.TheVariants.{Worn, Barred, Halted, Full, Opened, Gone, Refused, Idle}
use Rattle.hub_machine.specs.declared.steps.Reply.TheVariants.{Sent, Ran, Taken}

pub record After : Type 0 where
  pub state : State
  pub reply : Reply

-- nothing was done, and nobody ends
abbrev pub unchanged : State → Reply → After
unchanged s r = record { state = s; reply = r }

-- something was done, and those end who have to
abbrev pub ends : List Spread → State → Reply → After
ends xs s r = record { state = finished xs s; reply = r }

-- ---- a binding

-- a dataspace itself
abbrev pub is_to_space : Cap → Bool
is_to_space c = is_space c.actor && c.entity == 0

-- why no reference is bound: a connection has come, its oid is bound, it isn't to a dataspace itself, or something is
-- embedded in its oid or in a caveat
abbrev pub is_barred : Binding → State → Bool
is_barred b s =
    nat_lt 0 s.world.opened || bound b.oid s.world.bindings || not (is_to_space b.cap) || has_embedded b.oid
    || has_embedded (cap_value b.cap)

abbrev pub bind_unless : Bool → Binding → State → After
bind_unless true b s = unchanged s Barred
bind_unless false b s = ends [] (record s { world = binding b s.world }) Taken

-- ---- a watcher

-- one dataspace would be both watched and asserted at
abbrev pub meets : Watched → Watched → Bool
meets x y = y.to == x.from || y.from == x.to

-- something is embedded in it, or it is no pattern
abbrev pub is_no_pattern : Plain → Bool
is_no_pattern v = has_embedded v || is_none (pattern_of v)

-- why no watcher begins: a connection has come, there are as many as may be, what it watches or asserts at is no
-- dataspace, its behaviour isn't known, its pattern is none, or a dataspace would be both watched and asserted at
abbrev pub is_unwatchable : Watched → State → Bool
is_unwatchable x s =
    nat_lt 0 s.world.opened || nat_le most_watchers (length s.world.watches) || not (is_space x.from)
    || not (is_space x.to) || not (is_behaviour x.name) || is_no_pattern x.pattern
    || list_any (meets x) (x ∷ s.world.watches)

abbrev pub watch_unless : Bool → Watched → State → After
watch_unless true x s = unchanged s Barred
watch_unless false x s = ends [] (record s { world = watching x s.world }) Taken

-- ---- an arrival

-- the reference to an actor itself
abbrev pub actor_reference : ℕ → Plain
actor_reference a = reference_value (record { actor = a; entity = 0 })

-- a connection comes, with actor `space`, the gatekeeper or a dataspace, as its object 0
abbrev pub opened : ℕ → State → State
opened space s = record s {
  world = arrived s.world;
  connections = with_entry (s.world.opened + 1) (ports_to (actor_reference space)) s.connections;
}

-- why none comes
abbrev pub refusal : ℕ → State → Option Reply
refusal space s =
    if nat_lt last_dataspace space then Some Barred
    else if s.stopped then Some Halted else if nat_le most_connections (length s.connections) then Some Full else None

abbrev pub arrive_unless : Option Reply → ℕ → State → After
arrive_unless (Some r) space s = unchanged s r
arrive_unless None space s = ends [] (opened space s) (Opened (s.world.opened + 1))

-- ---- a packet: all of it is done, or nothing of it, and the connection ends

-- in a state without the connection's names: they are those that the packet leaves
abbrev pub accepted : ℕ → Admitting → State → State
accepted k x s =
    record s { world = sent (actor_of k) x.acts s.world; connections = with_entry k x.ports s.connections }

abbrev pub judged : ℕ → Admitted → State → After
judged k (refused f) s = ends [] (departed_for k f s) (Refused f)
judged k (admitted x) s = ends [] (accepted k x s) Taken

abbrev pub packet_at : ℕ → Option PortsState → TurnRecord → State → After
packet_at k None t s = unchanged s Gone
packet_at k (Some ports) t s = judged k (turn_admission k ports s.world t) (nameless k s)

-- ---- an end that its peer brings about

abbrev pub bad_at : ℕ → Option PortsState → Fault → State → After
bad_at k None f s = unchanged s Gone
bad_at k (Some ports) f s = ends [] (failed k f s) (Refused f)

abbrev pub close_at : ℕ → Option PortsState → State → After
close_at k None s = unchanged s Gone
close_at k (Some ports) s = ends [] (closed k s) Taken

-- ---- a turn

-- what an event tells, as a value
abbrev pub told_value : Told → Option Plain
told_value (told.Assert h entity v) = Some v
told_value (told.Retract h entity) = None
told_value (told.Message entity v) = Some v
told_value (told.Sync entity peer) = Some (embedded peer)

-- the references of which connection k is told, those to its own objects excepted, in order
abbrev pub foreign_told : ℕ → Option Plain → List Plain
foreign_told k None = []
foreign_told k (Some v) = foreign_in k v

abbrev pub foreign_to : ℕ → Batch → List Plain
foreign_to k b = flat_map (λ e. foreign_told k (told_value e)) b.events

-- an event as connection k is told of it, its references as the connection knows them by its exports
abbrev pub sent_event : ExportTable → ℕ → Told → TurnEvent
sent_event exports k (told.Assert h entity v) =
    record { oid = entity; event = Assert (crossed_out exports k v) h }
sent_event exports k (told.Retract h entity) = record { oid = entity; event = Retract h }
sent_event exports k (told.Message entity v) =
    record { oid = entity; event = Message (crossed_out exports k v) }
sent_event exports k (told.Sync entity peer) =
    record { oid = entity; event = Sync (crossed_out exports k (embedded peer)) }

-- a connection without a dialect is told in the newer one
abbrev pub packet_to : ExportTable → Option Dialect → ℕ → Batch → Reply
packet_to exports d k b =
    Sent (packet.Turn (spoken (unwrap_or d Newer) (map (sent_event exports k) b.events)))

-- more would be exported than may be
abbrev pub overrun_by : PortsFault → Option Fault
overrun_by (Exports n) = Some (Overrun 3 n)
overrun_by (Weight n) = Some (Overrun 4 n)
overrun_by NoMemory = None

abbrev pub telling_fault : ℕ → Batch → PortsState → Option Fault
telling_fault k b ports = option_and_then overrun_by (fault_out ports.exports (foreign_to k b))

-- the exports as the batch is told
abbrev pub exports_after : ℕ → Batch → PortsState → ExportTable
exports_after k b ports = all_exported ports.exports (foreign_to k b)

-- the references in a value that connection k is told of are exported
abbrev pub exporting_in : ℕ → Plain → PortsState → PortsState
exporting_in k v ports = with_exports (exports_with ports.exports k v) ports

-- the numbers by which they are told
abbrev pub numbers_told : ℕ → Plain → PortsState → List ℕ
numbers_told k v ports = numbers_out (exports_with ports.exports k v) k v

-- a row that connection k is told of mentions exports until it is taken back; those in what is said are pinned
abbrev pub naming : ℕ → Told → PortsState → PortsState
naming k (told.Assert h entity v) ports = noted h (numbers_told k v ports) (exporting_in k v ports)
naming k (told.Retract h entity) ports = forgotten h ports
naming k (told.Message entity v) ports = pinned_with (numbers_told k v ports) (exporting_in k v ports)
naming k (told.Sync entity peer) ports =
    pinned_with (numbers_told k (embedded peer) ports) (exporting_in k (embedded peer) ports)

abbrev pub all_named : ℕ → List Told → PortsState → PortsState
all_named k [] ports = ports
all_named k (e ∷ es) ports = all_named k es (naming k e ports)

-- once the batch is told, the exports go that are neither pinned nor mentioned by a row
abbrev pub names_after : ℕ → Batch → PortsState → PortsState
names_after k b ports = swept (all_named k b.events ports)

abbrev pub exporting : ℕ → Batch → PortsState → State → State
exporting k b ports s = record s { connections = with_entry k (names_after k b ports) s.connections }

-- the packet is sent, and what it tells of is exported; or the connection ends
abbrev pub told_unless : Option Fault → ℕ → PortsState → Batch → State → After
told_unless (Some f) k ports b s = ends [] (failed k f s) (Refused f)
told_unless None k ports b s = ends [] (exporting k b ports s) (packet_to (exports_after k b ports) ports.dialect k b)

-- a connection that takes a batch is live, and has names: it doesn't come about that it has none
abbrev pub tell : ℕ → Option PortsState → Batch → State → After
tell k None b s = ends [] s Ran
tell k (Some ports) b s = told_unless (telling_fault k b ports) k ports b s

-- the fault of which a connection's peer is still to be told
abbrev pub fault_for : ℕ → State → Option Fault
fault_for a s = if nat_le 17 a then entry_of (a - 16) s.faults else None

-- it is told once
abbrev pub tell_fault : ℕ → Option Fault → State → After
tell_fault a None s = unchanged s Gone
tell_fault a (Some f) s = ends [] (record s { faults = without_entry (a - 16) s.faults }) (Sent (error_of f))

-- what follows from what the world tells of a turn that is done in s
abbrev pub after_turn : ℕ → Turned → State → After
after_turn a (turned.Ran xs) s = ends xs s Ran
after_turn a (turned.Taken b) s = tell (a - 16) (ports_of (a - 16) s) b s
after_turn a turned.Idle s = unchanged s Idle
after_turn a turned.Gone s = tell_fault a (fault_for a s) s

abbrev pub turn_of : ℕ → State → After
turn_of a s = after_turn a (turn a s.world).turned (record s { world = (turn a s.world).world })

-- ---- work: the lowest of the system's actors takes a turn, where a batch waits for one

abbrev pub rest : State → After
rest s = if s.stopped then unchanged s Halted else unchanged s Idle

abbrev pub work_by : Option ℕ → State → After
work_by None s = rest s
work_by (Some a) s = if is_system a then turn_of a s else rest s

-- ---- steps

-- the numbers are used up: handles, or for an arrival those of connections
abbrev pub is_worn : State → Step → Bool
is_worn s (Arrive space) = nat_le worn_handle s.world.table.next || nat_le worn_connections s.world.opened
is_worn s e = nat_le worn_handle s.world.table.next

abbrev pub done : State → Step → After
done s (Bind b) = bind_unless (is_barred b s) b s
done s (Watch x) = watch_unless (is_unwatchable x s) x s
done s (Arrive space) = arrive_unless (refusal space s) space s
done s (Packet k t) = packet_at k (ports_of k s) t s
done s (Bad k f) = bad_at k (ports_of k s) f s
done s (Close k) = close_at k (ports_of k s) s
done s (Turn a) = turn_of a s
done s Work = work_by (lowest s.world.table) s
done s Stop = ends [] (record s { stopped = true }) Taken

abbrev pub step : State → Step → After
step s e = if is_worn s e then unchanged s Worn else done s e

-- what the type of steps keeps: a reference that is bound is one that is read back, and the events of a packet may
-- stand on the wire
abbrev pub IsAllowed : State → Step → Type 0
IsAllowed s (Bind b) = IsSound b.cap
IsAllowed s (Watch x) = Unit {0}
IsAllowed s (Arrive space) = Unit {0}
IsAllowed s (Packet k t) = AllByRecursion IsTurnEvent t.events
IsAllowed s (Bad k f) = Unit {0}
IsAllowed s (Close k) = Unit {0}
IsAllowed s (Turn a) = Unit {0}
IsAllowed s Work = Unit {0}
IsAllowed s Stop = Unit {0}
