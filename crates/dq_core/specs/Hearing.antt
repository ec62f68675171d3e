-- What the events of a packet bring, one after another: lines, and events that the client says.
--
-- The client has objects 1 and 2. Under a handle one value stands at most, at one of them. The first value that is
-- asserted at object 1 is the answer for the reference: `<accepted #:[0 n]>` lets the client observe its pattern at the
-- server's object n. What is asserted, taken back and said at object 2 makes lines. A sync whose peer is the server's
-- object n is answered there. The server speaks the newer dialect.
use Rattle.std.specs.Prelude.{ℕ, Bool, true, false, ◌||◌, ◌==◌, List, [], ◌∷◌, ◌++◌, if◌then◌else◌, is_some}
use Rattle.std.specs.Prelude.{Option, None, Some, Result, Ok, Err}
use Rattle.pv_read.specs.Results.{◌>>=◌}
use Rattle.pv_value.specs.Plain.{Plain}
use Rattle.rl_packet.specs.declared.packets.Dialect.{Dialect}
use Rattle.rl_packet.specs.declared.packets.Event.{Event}
use Rattle.rl_packet.specs.declared.packets.TurnEvent.{TurnEvent}
use Rattle.rl_packet.specs.declared.packets.Turn.{Turn as TurnRecord}
use Rattle.rl_packet.specs.declared.packets.Packet.{Packet}
use Rattle.rl_packet.specs.declared.packets.Dialect.TheVariants.{Older}
use Rattle.rl_packet.specs.declared.packets.Event.TheVariants.{Assert, Retract, Message, Sync}
use Rattle.rl_packet.specs.declared.packets.Packet.TheVariants.{Turn, Error, Nop, Extension}
use Rattle.dq_core.specs.declared.lines.Line.{Line}
use Rattle.dq_core.specs.declared.lines.Line.TheVariants.{Added, Removed, Said}
use Rattle.dq_core.specs.declared.client.Standing.{Standing}
use Rattle.dq_core.specs.declared.client.QueryFault.{QueryFault}
use Rattle.dq_core.specs.declared.client.QueryFault.TheVariants.{Rejected, ServerError, BadServer}
use Rattle.dq_core.specs.declared.hearing.Hearing.{Hearing}
use Rattle.dq_core.specs.States.{ClientState}
use Rattle.dq_core.specs.Clients.{under, with_standing, without, with_answer}
use Rattle.dq_core.specs.Words.{own_oid, accepted_oid, is_rejected}
use Rattle.dq_core.specs.Asking.{observation, sync_answer}

-- before the first event of a packet
abbrev pub begins : ClientState → Hearing
begins c = record { client = c; lines = []; asks = [] }

-- ---- what one event may change

abbrev pub with_client : ClientState → Hearing → Hearing
with_client c x = record { client = c; lines = x.lines; asks = x.asks }

-- a line more, where it is about object 2
abbrev pub with_line : ℕ → Line → Hearing → Hearing
with_line oid l x = record {
  client = x.client;
  lines = if oid == 2 then x.lines ++ l ∷ [] else x.lines;
  asks = x.asks;
}

abbrev pub with_ask : TurnEvent → Hearing → Hearing
with_ask e x = record { client = x.client; lines = x.lines; asks = x.asks ++ e ∷ [] }

-- ---- an assertion

-- the pattern is observed at the server's object n
abbrev pub accepted : ℕ → Hearing → Hearing
accepted n x = with_ask (observation n x.client.pattern) (with_client (with_answer x.client) x)

abbrev pub answered_by : Option ℕ → Bool → Hearing → Result Hearing QueryFault
answered_by (Some n) rejected x = Ok (accepted n x)
answered_by None true x = Err Rejected
answered_by None false x = Err BadServer

-- a value at object 1: the first is the answer
abbrev pub answered : Plain → Hearing → Result Hearing QueryFault
answered v x = if x.client.answered then Ok x else answered_by (accepted_oid v) (is_rejected v) x

-- the handle must not stand yet
abbrev pub asserted : ℕ → Plain → ℕ → Hearing → Result Hearing QueryFault
asserted oid v handle x =
    let y = with_client (with_standing handle oid v x.client) x in
    if is_some (under handle x.client) then Err BadServer
    else (if oid == 1 then answered v y else Ok (with_line oid (Added v) y))

-- ---- a retraction

abbrev pub retracted_from : ℕ → ℕ → Option Standing → Hearing → Result Hearing QueryFault
retracted_from oid handle None x = Err BadServer
retracted_from oid handle (Some s) x =
    if s.oid == oid then Ok (with_line oid (Removed s.value) (with_client (without handle x.client) x)) else Err BadServer

-- the handle must stand at the object
abbrev pub retracted : ℕ → ℕ → Hearing → Result Hearing QueryFault
retracted oid handle x = retracted_from oid handle (under handle x.client) x

-- ---- a sync

abbrev pub synced : Option ℕ → Hearing → Hearing
synced (Some n) x = with_ask (sync_answer n) x
synced None x = x

-- ---- events, and a packet

abbrev pub happened : ℕ → Event → Hearing → Result Hearing QueryFault
happened oid (Assert v handle) x = asserted oid v handle x
happened oid (Retract handle) x = retracted oid handle x
happened oid (Message v) x = Ok (with_line oid (Said v) x)
happened oid (Sync peer) x = Ok (synced (own_oid peer) x)

abbrev pub is_ours : ℕ → Bool
is_ours oid = (oid == 1) || (oid == 2)

abbrev pub event_heard : TurnEvent → Hearing → Result Hearing QueryFault
event_heard e x = if is_ours e.oid then happened e.oid e.event x else Err BadServer

-- the first event at fault decides
abbrev pub events_heard : List TurnEvent → Hearing → Result Hearing QueryFault
events_heard [] x = Ok x
events_heard (e ∷ es) x = event_heard e x >>= events_heard es

abbrev pub is_older : Option Dialect → Bool
is_older (Some Older) = true
is_older d = false

abbrev pub turn_heard : TurnRecord → Hearing → Result Hearing QueryFault
turn_heard t x = if is_older t.dialect then Err BadServer else events_heard t.events x

abbrev pub packet_heard : Packet → Hearing → Result Hearing QueryFault
packet_heard (Turn t) x = turn_heard t x
packet_heard (Error message detail) x = Err ServerError
packet_heard Nop x = Ok x
packet_heard (Extension v) x = Ok x
