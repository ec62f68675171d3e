-- What the code keeps of a run, and what each part of the code promises of it. What is promised of a script speaks of
-- none of it.
use Rattle.std.specs.Prelude.{◌≡◌, ◌≢◌, ℕ, ◌+◌, ◌<◌, ◌≤◌, ◌⊎◌, List, length, Option, Some, None}
use Rattle.pv_binary.specs.Written.{written}
use Rattle.rl_packet.specs.Packets.{packet_value}
use Rattle.rl_packet.specs.declared.packets.Packet.{Packet}
use Rattle.rl_stream.specs.declared.nexts.Next.{Next}
use Rattle.rl_stream.specs.declared.nexts.Next.TheVariants as next
use Rattle.rl_stream.specs.Nexts.{Decider, Decides}
use Rattle.rl_stream.specs.Streams.{StreamState}
use Rattle.hub_machine.specs.declared.faults.Fault.{Fault}
use Rattle.hub_machine.specs.declared.faults.Fault.TheVariants as fault
use Rattle.hub_machine.specs.State.{State, opening}
use Rattle.hub_machine.specs.Machine.{step as step_of}
use Rattle.hub_machine.specs.Replays.{sent_to}
use Rattle.hub_machine.specs.declared.steps.Step.{Step}
use Rattle.hub_machine.specs.declared.steps.Step.TheVariants as step
use Rattle.hub_machine.specs.declared.steps.Reply.{Reply}
use Rattle.hub_machine.specs.declared.steps.Reply.TheVariants as reply
use Rattle.hub_laws.specs.Laws.{AreAllowed}
use Rattle.hub_outs.specs.Outs.{OutsState, sent_of, kept}
use Rattle.sc_events.specs.declared.inputs.Form.{Form}
use Rattle.sc_schema.specs.Courses.{GoesTo, StopsFor}
use Rattle.sc_script.specs.Limits.{most_sent}
use Rattle.sc_script.specs.declared.faults.ScriptFault.{ScriptFault}
use Rattle.sc_script.specs.declared.faults.ScriptFault.TheVariants as script
use Rattle.sc_script.specs.Runs.{Running, Course, goes, state_of, sent_size, cause_in}
use Rattle.sc_script.specs.Scripts.{IsCourseOf}

pub record RunState : Type 0 where
  pub state : State
  pub outs : OutsState
  pub size : ℕ
  pub streams : List (ℕ × StreamState)

-- the step binds a reference, or makes a watcher
abbrev pub SetsUp : Step → Type 0
SetsUp (step.Bind b) = Unit {0}
SetsUp (step.Watch x) = Unit {0}
SetsUp (step.Arrive space) = ⊥
SetsUp (step.Packet k t) = ⊥
SetsUp (step.Bad k f) = ⊥
SetsUp (step.Close k) = ⊥
SetsUp (step.Turn a) = ⊥
SetsUp step.Work = ⊥
SetsUp step.Stop = ⊥

-- how many bytes a packet has on the wire
abbrev pub size_of : Packet → ℕ
size_of p = length (written (packet_value p))

abbrev pub noted : Option ℕ → Packet → RunState → RunState
noted a p s = record { state = s.state; outs = kept a p s.outs; size = s.size + size_of p; streams = s.streams }

-- a step is made; what it sends isn't noted
abbrev pub made : Step → RunState → RunState
made e s = record { state = (step_of s.state e).state; outs = s.outs; size = s.size; streams = s.streams }

-- what sets the server up was taken, where this was answered
abbrev pub IsUnbarred : Reply → Type 0
IsUnbarred answer = (answer ≢ reply.Worn) × (answer ≢ reply.Barred)

-- nothing was sent, and the run goes on, where this was answered
abbrev pub IsPassed : Reply → Type 0
IsPassed answer = (answer ≢ reply.Worn) × (answer ≢ reply.Full) × ((p : Packet) → answer ≢ reply.Sent p)

-- behind what was answered the run is as it was, or a packet is noted
abbrev pub IsBehind : Option ℕ → Reply → RunState → RunState → Type 0
IsBehind a answer s t =
    (IsPassed answer × (t ≡ s))
    ⊎ ((p : Packet) × (answer ≡ reply.Sent p) × (t ≡ noted a p s) × (t.size ≤ most_sent))

-- the fault for which what was answered stops the run, if one
abbrev pub IsReplyStop : Reply → RunState → ScriptFault → Type 0
IsReplyStop answer s f =
    ((answer ≡ reply.Worn) × (f ≡ script.Limit 5))
    ⊎ (((answer ≡ reply.Full) × (f ≡ script.Limit 2))
    ⊎ ((p : Packet) × (answer ≡ reply.Sent p)
    × (f ≢ script.NoMemory → (f ≡ script.Limit 4) × (most_sent < s.size + size_of p))))

-- the fault for which a connection ends, where what is next in its stream is bad
abbrev pub fault_of : Next → Option Fault
fault_of (next.BadBytes number place) = Some (fault.BadBytes number place)
fault_of next.BadPacket = Some fault.BadPacket
fault_of other = None

-- each step met its condition; the state, what each connection was sent, how many bytes, and the streams are the run's
pub record IsAt (r : Running) (s : RunState) : Type 0 where
  pub allowed : AreAllowed (opening r.schema) r.steps
  pub state : s.state ≡ state_of r
  pub sent : (k : ℕ) → sent_of k s.outs ≡ sent_to r.schema k r.steps
  pub size : s.size ≡ sent_size r
  pub streams : s.streams ≡ r.streams

abbrev pub HasRun : Course → RunState → Type 0
HasRun course s = GoesTo (λ r. IsAt r s) course

abbrev pub IsStopped : Course → ScriptFault → Type 0
IsStopped course f = StopsFor course (cause_in f)

-- what is promised of each part of a run: over every decider, from where the run is
abbrev pub RunsAs : RunState → (Decider → Running → Course) → RunState → Type 0
RunsAs s part t = (N : Decider) → Decides N → (r : Running) → IsAt r s → HasRun (part N r) t

abbrev pub StopsAs : RunState → (Decider → Running → Course) → ScriptFault → Type 0
StopsAs s part f = (N : Decider) → Decides N → (r : Running) → IsAt r s → IsStopped (part N r) f

-- behind a packet the run is where the course ends, or more is read from where it is, of the same stream
abbrev pub ReadsOn : RunState → Option StreamState → StreamState → ((Running → Course) → Course) → Type 0
ReadsOn t None st part = (more : Running → Course) → HasRun (part more) t
ReadsOn t (Some left) st part =
    (left ≡ st) × (r : Running) × IsAt r t × ((more : Running → Course) → part more ≡ more r)

-- the input runs to where the run is
abbrev pub RanAs : Form → List ℕ → RunState → Type 0
RanAs form bytes s =
    (N : Decider) → Decides N → (r : Running) × IsCourseOf N form bytes (goes r) × IsAt r s
