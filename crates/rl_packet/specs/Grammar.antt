-- Which values are packets. Syndicate Protocol, "packets": a turn is a sequence of events `[oid event]`, an event
-- `<A assertion handle>`, `<R handle>`, `<M body>` or `<S #:peer>`, or in the older dialect
-- `<assert assertion handle>`, `<retract handle>`, `<message body>` or `<sync #:peer>`, all events of one turn in the
-- same dialect; an error is `<error message detail>`, the message a string; `#f` means nothing; any other record is an
-- extension. Oids and handles are from 0 to 2 ^ 63 - 1.
use Rattle.std.specs.Prelude.{◌≡◌, Bool, true, false, List, map, is_none}
use Rattle.std.specs.List.{AllByRecursion}
use Rattle.pv_value.specs.Plain.{Plain, string, record_of}
pub use Rattle.rl_packet.specs.Wired.{is_wire_reference, is_wired, all_wired, all_pairs_wired, is_peer}
pub use Rattle.rl_packet.specs.Wired.{IsEvent, IsTurnEvent}
use Rattle.rl_packet.specs.Packets.{Dialect, Event, TurnEvent, TurnRecord, is_empty, event_value, aimed_value}
use Rattle.rl_packet.specs.Packets.{Packet, Turn, Error, Nop, Extension, turn_value, packet_value}
use Rattle.rl_packet.specs.declared.reading.PacketFault.{PacketFault}
use Rattle.rl_packet.specs.declared.reading.PacketFault.TheVariants.{BadPacket, NoMemory}

abbrev pub is_string : Plain → Bool
is_string (string s) = true
is_string v = false

abbrev pub is_record : Plain → Bool
is_record (record_of l fs) = true
is_record v = false

-- the turn has no dialect exactly where it has no events
abbrev pub HasDialect : TurnRecord → Type 0
HasDialect t = is_none t.dialect ≡ is_empty t.events

abbrev pub IsTurn : TurnRecord → Type 0
IsTurn t = AllByRecursion IsTurnEvent t.events × HasDialect t

-- an error has a string as its message; an extension is a record, and the value of no error
abbrev pub IsPacket : Packet → Type 0
IsPacket (Turn t) = IsTurn t
IsPacket (Error message detail) = is_string message ≡ true
IsPacket Nop = Unit {0}
IsPacket (Extension v) =
    (is_record v ≡ true) × ((m d : Plain) → is_string m ≡ true → v ≡ packet_value (Error m d) → ⊥)

-- a value is that of a packet, of a turn
abbrev pub IsPacketOf : Plain → Packet → Type 0
IsPacketOf v p = IsPacket p × (v ≡ packet_value p)

abbrev pub IsTurnOf : Plain → TurnRecord → Type 0
IsTurnOf v t = IsTurn t × (v ≡ turn_value t)

-- in a dialect: items are the values of these events at objects; a value is that of an event at an object, of an event
abbrev pub AreEventsOf : Dialect → List Plain → List TurnEvent → Type 0
AreEventsOf d items es = AllByRecursion IsTurnEvent es × (items ≡ map (aimed_value d) es)

abbrev pub IsTurnEventOf : Dialect → Plain → TurnEvent → Type 0
IsTurnEventOf d v e = IsTurnEvent e × (v ≡ aimed_value d e)

abbrev pub IsEventOf : Dialect → Plain → Event → Type 0
IsEventOf d v e = IsEvent e × (v ≡ event_value d e)

-- the message and the detail of an error
abbrev pub IsErrorOf : Plain → Plain → Plain → Type 0
IsErrorOf v message detail = IsPacketOf v (Error message detail)

-- a bad packet is none of these; where memory ran out, nothing is said
abbrev pub NoneIs : {X : Type 0} → (X → Type 0) → PacketFault → Type 0
NoneIs {X = X} P BadPacket = (x : X) → P x → ⊥
NoneIs P NoMemory = Unit {0}

-- a value is that of one packet
abbrev pub OnePacket : Type 0
OnePacket = (p q : Packet) → IsPacket p → IsPacket q → packet_value p ≡ packet_value q → p ≡ q
