-- The run of a script: the steps that its values make, one event after another, or the first cause that stops it.
use Rattle.std.specs.Prelude.{ℕ, zero, suc, ◌+◌, ◌-◌, List, [], ◌∷◌, ◌++◌, length, Bool, true, false, ◌&&◌}
use Rattle.std.specs.Prelude.{◌||◌, ◌==◌, nat_lt, nat_le, Option, Some, None, unwrap_or, if◌then◌else◌}
use Rattle.std.specs.List.{flat_map}
use Rattle.pv_binary.specs.Written.{written}
use Rattle.ps_schema.specs.declared.Definition.{Definition}
use Rattle.sr_caveat.specs.Patterns.{caveats}
use Rattle.lc_guard.specs.Knowing.{all_known}
use Rattle.gk_sturdy.specs.declared.bound.Binding.{Binding}
use Rattle.ac_world.specs.Worlds.{entry_of, with_entry, without_entry}
use Rattle.rl_packet.specs.Packets.{packet_value}
use Rattle.rl_packet.specs.declared.packets.Packet.{Packet}
use Rattle.rl_packet.specs.declared.packets.Packet.TheVariants as packet
use Rattle.rl_stream.specs.declared.nexts.Next.{Next}
use Rattle.rl_stream.specs.declared.nexts.Next.TheVariants as next
use Rattle.rl_stream.specs.Nexts.{Decider}
use Rattle.rl_stream.specs.Streams.{StreamState, no_stream, with_bytes, read_off}
use Rattle.hub_machine.specs.declared.faults.Fault.TheVariants as fault
use Rattle.hub_machine.specs.State.{State, opening, is_there}
use Rattle.hub_machine.specs.Machine.{step as step_of}
use Rattle.hub_machine.specs.Replays.{replay, lowest, packet_in}
use Rattle.hub_machine.specs.declared.steps.Step.{Step}
use Rattle.hub_machine.specs.declared.steps.Step.TheVariants as step
use Rattle.hub_machine.specs.declared.steps.Reply.{Reply}
use Rattle.hub_machine.specs.declared.steps.Reply.TheVariants as reply
use Rattle.sc_events.specs.declared.events.ScriptEvent.{ScriptEvent}
use Rattle.sc_events.specs.declared.events.ScriptEvent.TheVariants.{Bind, Watch, Open, Bytes, Close, Turn, Drain}
use Rattle.sc_events.specs.declared.events.ScriptEvent.TheVariants.{LongDrain, Schema}
use Rattle.sc_schema.specs.Courses.{CourseOf, Doing}
pub use Rattle.sc_schema.specs.Courses.{goes, stops, goes_on}
use Rattle.sc_script.specs.Limits.{most_sent}
use Rattle.sc_script.specs.declared.faults.ScriptFault.{ScriptFault}
use Rattle.sc_script.specs.declared.faults.ScriptFault.TheVariants as script

-- ---- how far a run is, and what stops one

-- the schema by which guards judge, the steps that were made, and each connection's stream by its number
pub record Running : Type 0 where
  pub schema : List Definition
  pub steps : List Step
  pub streams : List (ℕ × StreamState)

-- value n is malformed, is no event, names a connection that was never opened, binds what can't be bound, or makes a
-- watcher that can't be; limit w is passed; or event n gives what is no schema, or binds by a guard whose name the
-- schema doesn't define
pub data Cause : Type 0 where
  bad : (n : ℕ) → Cause
  limit : (w : ℕ) → Cause
  config : (n : ℕ) → Cause

abbrev pub Course : Type 0
Course = CourseOf Running Cause

abbrev pub beginning : List Definition → Running
beginning ds = record { schema = ds; steps = []; streams = [] }

abbrev pub state_of : Running → State
state_of r = replay r.schema r.steps

-- ---- steps

-- the packets that were sent, to whomever, one behind another
abbrev pub all_sent_from : State → List Step → List Packet
all_sent_from s [] = []
all_sent_from s (e ∷ es) = packet_in (step_of s e).reply ++ all_sent_from (step_of s e).state es

abbrev pub spelled : List Packet → List ℕ
spelled packets = flat_map (λ p. written (packet_value p)) packets

-- how many bytes were sent
abbrev pub sent_size : Running → ℕ
sent_size r = length (spelled (all_sent_from (opening r.schema) r.steps))

abbrev pub with_step : Step → Running → Running
with_step e r = record r { steps = r.steps ++ e ∷ [] }

-- a run sends no more than 268,435,456 bytes
abbrev pub unless_too_much : Running → Course
unless_too_much r = if nat_lt most_sent (sent_size r) then stops (limit 4) else goes r

-- the numbers are used up, or more connections would be live than may be
abbrev pub by_reply : Reply → Running → Course
by_reply reply.Worn r = stops (limit 5)
by_reply reply.Full r = stops (limit 2)
by_reply (reply.Sent p) r = unless_too_much r
by_reply answer r = goes r

abbrev pub stepped : Step → Running → Course
stepped e r = by_reply (step_of (state_of r) e).reply (with_step e r)

-- a turn of an actor
abbrev pub turned : ℕ → Running → Course
turned a r = stepped (step.Turn a) r

abbrev pub turned_where : Option ℕ → Running → Course
turned_where None r = goes r
turned_where (Some a) r = turned a r

-- so many turns of the lowest actor with work
abbrev pub drained : ℕ → Running → Course
drained zero r = goes r
drained (suc m) r = goes_on (drained m) (turned_where (lowest (state_of r)) r)

-- ---- bytes

abbrev pub stream_of : ℕ → Running → StreamState
stream_of k r = unwrap_or (entry_of k r.streams) no_stream

abbrev pub with_stream : ℕ → StreamState → Running → Running
with_stream k s r = record r { streams = with_entry k s r.streams }

-- more is read where the connection is still there; st is its stream
abbrev pub read_where : ℕ → StreamState → (Running → Course) → Running → Course
read_where k st more r = if is_there k (state_of r) then more r else goes (with_stream k st r)

-- a packet: a turn is sent, an error ends the connection, and anything else is passed over; st is the stream behind it
abbrev pub with_packet : ℕ → Packet → StreamState → (Running → Course) → Running → Course
with_packet k (packet.Turn t) st more r = goes_on (read_where k st more) (stepped (step.Packet k t) r)
with_packet k (packet.Error message detail) st more r = stepped (step.Close k) (with_stream k st r)
with_packet k packet.Nop st more r = more r
with_packet k (packet.Extension v) st more r = more r

-- what is next is no packet: the connection ends where it is bad; st is its stream
abbrev pub with_no_packet : ℕ → Next → StreamState → Running → Course
with_no_packet k (next.BadBytes number place) st r =
    stepped (step.Bad k (fault.BadBytes number place)) (with_stream k st r)
with_no_packet k next.BadPacket st r = stepped (step.Bad k fault.BadPacket) (with_stream k st r)
with_no_packet k other st r = goes (with_stream k st r)

-- what is next; more is read behind a packet, from as many bytes on as it has
abbrev pub with_next : ℕ → Next → StreamState → (ℕ → Running → Course) → Running → Course
with_next k (next.Whole p size) st more r = with_packet k p (read_off size st) (more size) r
with_next k other st more r = with_no_packet k other st r

-- the packets of a connection that is there, so many at most; st is its stream
abbrev pub all_read : Decider → ℕ → ℕ → StreamState → Running → Course
all_read N k zero st r = goes (with_stream k st r)
all_read N k (suc m) st r = with_next k (N st.rest st.place) st (λ size. all_read N k m (read_off size st)) r

-- the packets in a stream; each has one byte at least
abbrev pub packets_read : Decider → ℕ → StreamState → Running → Course
packets_read N k st r = all_read N k (suc (length st.rest)) st r

-- a stream is taken out, to be put back with more bytes, or fewer
abbrev pub without_stream : ℕ → Running → Running
without_stream k r = record r { streams = without_entry k r.streams }

-- bytes come; those for an ended connection are dropped
abbrev pub bytes_come : Decider → ℕ → List ℕ → Running → Course
bytes_come N k b r =
    if is_there k (state_of r)
    then packets_read N k (with_bytes b (stream_of k r)) (without_stream k r) else goes r

-- ---- events

-- the event is bad where its step is barred
abbrev pub unless_barred : ℕ → Reply → Running → Course
unless_barred n reply.Barred r = stops (bad n)
unless_barred n answer r = by_reply answer r

-- a reference is bound, or a watcher begins
abbrev pub set_up : ℕ → Step → Running → Course
set_up n e r = unless_barred n (step_of (state_of r) e).reply (with_step e r)

abbrev pub bound_where : Bool → ℕ → Binding → Running → Course
bound_where true n b r = set_up n (step.Bind b) r
bound_where false n b r = stops (config n)

-- the names of a binding's guards are looked at first
abbrev pub binds : ℕ → Binding → Running → Course
binds n b r = bound_where (all_known (state_of r).world.schema (caveats b.cap.caveats)) n b r

-- whether a connection was ever opened
abbrev pub was_opened : ℕ → Running → Bool
was_opened k r = nat_le 1 k && nat_le k (state_of r).world.opened

-- of the system's actors each may be asked for a turn, and of connections those that were opened
abbrev pub may_turn : ℕ → Running → Bool
may_turn a r = nat_le a 16 || was_opened (a - 16) r

abbrev pub after_event : Decider → ℕ → ScriptEvent → Running → Course
after_event N n (Bind b) r = binds n b r
after_event N n (Watch x) r = set_up n (step.Watch x) r
after_event N n (Open s) r = stepped (step.Arrive s) r
after_event N n (Bytes k b) r = if was_opened k r then bytes_come N k b r else stops (bad n)
after_event N n (Close k) r = if was_opened k r then stepped (step.Close k) r else stops (bad n)
after_event N n (Turn a) r = if may_turn a r then turned a r else stops (bad n)
after_event N n (Drain m) r = drained m r
after_event N n LongDrain r = stops (limit 3)
after_event N n (Schema text) r = if n == 0 then goes r else stops (bad n)

abbrev pub doing : Decider → Doing Running Cause
doing N = record { beginning = beginning; after_event = after_event N; bad = bad; no_schema = config 0 }

-- ---- faults

abbrev pub cause_in : ScriptFault → Option Cause
cause_in (script.Bad n) = Some (bad n)
cause_in (script.Limit w) = Some (limit w)
cause_in (script.Schema n) = Some (config n)
cause_in script.NoMemory = None
