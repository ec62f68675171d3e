-- What is never refused: a packet of a live connection that keeps to the limits, whose objects are known and whose
-- handles are right; and that a turn takes exactly the first batch.
use Rattle.std.specs.Prelude.{◌≡◌, ℕ, ◌+◌, ◌-◌, ◌≤◌, List, [], ◌∷◌, Bool, true, false, length, Option, Some, None}
use Rattle.pv_value.specs.Plain.{Plain}
use Rattle.sr_caveat.specs.Limits.{value_weight, value_depth}
use Rattle.sr_caveat.specs.declared.caps.Cap.{Cap}
use Rattle.ac_table.specs.declared.batches.Batch.{Batch}
use Rattle.ac_table.specs.Tables.{first_batch}
use Rattle.ac_table.specs.declared.loads.Load.{Load}
use Rattle.ac_world.specs.Worlds.{WorldState, is_system}
use Rattle.rl_packet.specs.declared.packets.Event.{Event}
use Rattle.rl_packet.specs.declared.packets.Event.TheVariants.{Assert, Retract, Message, Sync}
use Rattle.rl_packet.specs.declared.packets.TurnEvent.{TurnEvent}
use Rattle.rl_packet.specs.declared.packets.Turn.{Turn as TurnRecord}
use Rattle.rl_ports.specs.Ports.{PortsState, speaking, is_in_use}
use Rattle.rl_wire.specs.Crossing.{references_fault, nested}
use Rattle.hub_machine.specs.Limits.{most_events, most_handles, most_rows_weight, most_backlog, most_backlog_weight}
use Rattle.hub_machine.specs.Faults.{Fault}
use Rattle.hub_machine.specs.State.{State, ports_of}
use Rattle.hub_machine.specs.Admission.{Admitting, before_all, after, kept, weighed, rows_with, load_with}
use Rattle.hub_machine.specs.Admission.{through, peer_kept, Aim, object, stale, unknown, aim_at, differ}
use Rattle.hub_machine.specs.Machine.{is_worn, packet_to, telling_fault, exports_after}
use Rattle.hub_machine.specs.declared.steps.Step.{Step}
use Rattle.hub_machine.specs.declared.steps.Step.TheVariants.{Bind, Watch, Arrive, Packet, Bad, Close, Turn, Work, Stop}
use Rattle.hub_machine.specs.declared.steps.Reply.{Reply}
use Rattle.hub_machine.specs.declared.steps.Reply.TheVariants.{Refused, Ran, Taken}

-- ---- packets

abbrev pub IsLight : Plain → Type 0
IsLight v = (weighed v ≤ value_weight) × (nested v ≤ value_depth)

abbrev pub MayWait : Load → Type 0
MayWait l = (l.count ≤ most_backlog) × (l.weight ≤ most_backlog_weight)

-- each export that it names was given, and no reference in it that is in force has too many caveats or is too heavy
abbrev pub AreFineReferences : Plain → Admitting → Type 0
AreFineReferences v x = references_fault x.ports.exports v ≡ None

-- as the server keeps it the value is neither too heavy nor too deep; of a stale one it keeps nothing
abbrev pub IsLightWhere : Option Plain → Type 0
IsLightWhere None = Unit {0}
IsLightWhere (Some v) = IsLight v

abbrev pub IsFineValue : ℕ → Plain → Admitting → Type 0
IsFineValue k v x = AreFineReferences v x × IsLightWhere (kept k v x)

-- the handle isn't in use, and there is one more to have
abbrev pub IsFineHandle : ℕ → Admitting → Type 0
IsFineHandle h x = (is_in_use h x.ports ≡ false) × (length x.ports.handles + 1 ≤ most_handles)

-- the row is light enough and may wait; where the value is stale, or the caveats refuse it, there is none
abbrev pub IsFineRow : WorldState → Cap → Option Plain → Admitting → Type 0
IsFineRow w to None x = Unit {0}
IsFineRow w to (Some v) x = (rows_with (weighed v) x ≤ most_rows_weight) × MayWait (load_with w to (weighed v) x)

abbrev pub IsFineAssertion : ℕ → WorldState → Cap → Plain → ℕ → Admitting → Type 0
IsFineAssertion k w to v h x =
    IsFineValue k v x × IsFineHandle h x × IsFineRow w to (through k w to v x) x

abbrev pub IsFineMessage : WorldState → Cap → Option Plain → Admitting → Type 0
IsFineMessage w to None x = Unit {0}
IsFineMessage w to (Some v) x = MayWait (load_with w to (weighed v) x)

-- the event keeps to the limits, and its handle is right
abbrev pub IsFineEvent : ℕ → WorldState → Cap → Event → Admitting → Type 0
IsFineEvent k w to (Assert v h) x = IsFineAssertion k w to v h x
IsFineEvent k w to (Retract h) x = is_in_use h x.ports ≡ true
IsFineEvent k w to (Message v) x = IsFineValue k v x × IsFineMessage w to (through k w to v x) x
IsFineEvent k w to (Sync peer) x =
    IsFineValue k peer x × IsFineMessage w to (peer_kept k peer x) x

-- the same of an event at a released export
abbrev pub IsFineStale : Event → Admitting → Type 0
IsFineStale (Assert v h) x = AreFineReferences v x × IsFineHandle h x
IsFineStale (Retract h) x = is_in_use h x.ports ≡ true
IsFineStale (Message v) x = AreFineReferences v x
IsFineStale (Sync peer) x = AreFineReferences peer x

-- and its object is or was an export
abbrev pub IsFineAt : ℕ → WorldState → Aim → Event → Admitting → Type 0
IsFineAt k w (object to) e x = IsFineEvent k w to e x
IsFineAt k w stale e x = IsFineStale e x
IsFineAt k w unknown e x = ⊥

-- each event, as those before it leave what is counted
abbrev pub AreFine : ℕ → WorldState → List TurnEvent → Admitting → Type 0
AreFine k w [] x = Unit {0}
AreFine k w (e ∷ es) x = IsFineAt k w (aim_at e.oid x.ports) e.event x × AreFine k w es (after k w e x)

-- the turn is in the connection's dialect, where both have one, and has no more events than it may, each of them fine
pub record IsFineTurn (k : ℕ) (ports : PortsState) (t : TurnRecord) (w : WorldState) : Type 0 where
  pub dialect : differ t.dialect ports.dialect ≡ false
  pub few : length t.events ≤ most_events
  pub fine : AreFine k w t.events (before_all k (speaking t.dialect ports) w)

abbrev pub IsFineFor : ℕ → Option PortsState → TurnRecord → State → Type 0
IsFineFor k None t s = ⊥
IsFineFor k (Some ports) t s = IsFineTurn k ports t s.world

abbrev pub IsFinePacket : ℕ → TurnRecord → State → Type 0
IsFinePacket k t s = IsFineFor k (ports_of k s) t s

-- ---- turns

-- the reply to a connection's turn that takes this batch: the packet, or that too much would be exported
abbrev pub told_reply : Option Fault → ℕ → Batch → PortsState → Reply
told_reply None k b ports = packet_to (exports_after k b ports) ports.dialect k b
told_reply (Some f) k b ports = Refused f

-- a live connection has names: it doesn't come about that it has none
abbrev pub IsToldTo : ℕ → Option PortsState → Batch → Reply → Type 0
IsToldTo k None b r = r ≡ Ran
IsToldTo k (Some ports) b r = r ≡ told_reply (telling_fault k b ports) k b ports

-- the reply to an actor's turn that takes this batch
abbrev pub IsTurnReply : Bool → ℕ → Batch → State → Reply → Type 0
IsTurnReply true a b s r = r ≡ Ran
IsTurnReply false a b s r = IsToldTo (a - 16) (ports_of (a - 16) s) b r

-- ---- steps

abbrev pub IsComplete : State → Step → Reply → Type 0
IsComplete s (Packet k t) r = is_worn s (Packet k t) ≡ false → IsFinePacket k t s → r ≡ Taken
IsComplete s (Turn a) r =
    is_worn s (Turn a) ≡ false → (b : Batch) → first_batch a s.world.table ≡ Some b → IsTurnReply (is_system a) a b s r
IsComplete s (Bind b) r = Unit {0}
IsComplete s (Watch x) r = Unit {0}
IsComplete s (Arrive space) r = Unit {0}
IsComplete s (Bad k f) r = Unit {0}
IsComplete s (Close k) r = Unit {0}
IsComplete s Work r = Unit {0}
IsComplete s Stop r = Unit {0}
