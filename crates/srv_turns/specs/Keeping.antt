-- How far a reader is, as its parts promise it to one another. What is promised of a session speaks of none of it.
use Rattle.std.specs.Prelude.{◌≡◌, ◌⊎◌, ℕ, ◌+◌, List, ◌∷◌, ◌++◌, length, map, Bool, true, false, Option, None, Some}
use Rattle.std.specs.Prelude.{◌==◌, if◌then◌else◌}
use Rattle.out_ports.specs.declared.ports.Took.{Took}
use Rattle.out_ports.specs.declared.ports.Took.TheVariants as took
use Rattle.pv_binary.specs.OneOfThree.{AreBytes}
use Rattle.rl_packet.specs.declared.packets.Turn.{Turn as TurnRecord}
use Rattle.rl_packet.specs.declared.packets.Packet.{Packet}
use Rattle.rl_packet.specs.declared.packets.Packet.TheVariants as packet
use Rattle.rl_stream.specs.declared.nexts.Next.TheVariants as next
use Rattle.rl_stream.specs.Nexts.{IsNext}
use Rattle.rl_stream.specs.Streams.{StreamState, no_stream, with_bytes}
use Rattle.rl_stream.specs.Courses.{StreamCourse, ArePacketsOf, AreRead}
use Rattle.hub_machine.specs.declared.steps.Step.{Step}
use Rattle.hub_machine.specs.declared.steps.Step.TheVariants as steps
use Rattle.hub_machine.specs.declared.steps.Reply.{Reply}
use Rattle.hub_machine.specs.declared.steps.Reply.TheVariants as reply
use Rattle.turn_gate.specs.declared.gate.GateFault.{GateFault}
use Rattle.turn_gate.specs.declared.gate.GateFault.TheVariants as gate
use Rattle.srv_turns.specs.Replies.{CanBeReplied}
use Rattle.srv_turns.specs.Rounds.{Pair, Round, AreTakenRounds, IsCutRound, IsWorkBehind, is_taken, step_of, pairs_in}
use Rattle.srv_turns.specs.Rounds.{worked}
use Rattle.srv_turns.specs.Reading.{has_error, packets_due, HasRead}
use Rattle.srv_turns.specs.declared.reader.Heard.{Heard}
use Rattle.srv_turns.specs.declared.reader.Heard.TheVariants.{Turn, Error, Nothing}
use Rattle.srv_turns.specs.declared.reader.ReaderEnd.{ReaderEnd}
use Rattle.srv_turns.specs.declared.reader.ReaderEnd.TheVariants as end

-- ---- a step of a reader

-- how a reader ends for a reply to what its peer sent that isn't Taken
abbrev pub end_of : Reply → ReaderEnd
end_of (reply.Refused f) = end.Refused f
end_of reply.Gone = end.Gone
end_of r = end.Worn

-- whether and how it ends for a reply to a turn
abbrev pub after_turn : Reply → Option ReaderEnd
after_turn reply.Taken = None
after_turn r = Some (end_of r)

-- how it ends where a step wasn't done
abbrev pub end_at : GateFault → ReaderEnd
end_at gate.Spent = end.Spent
end_at gate.NoMemory = end.NoMemory

-- an end that the link brings about
abbrev pub is_of_link : ReaderEnd → Bool
is_of_link end.Clean = true
is_of_link end.Cut = true
is_of_link end.ReadFault = true
is_of_link x = false

-- how it ends where its link ends and this is left
abbrev pub link_end : StreamState → ReaderEnd
link_end st = if length st.rest == 0 then end.Clean else end.Cut

-- how many bytes were taken in all, after one take more
abbrev pub taken_after : Took → ℕ → ℕ
taken_after (took.Some n) before = before + n
taken_after took.End before = before
taken_after took.Failed before = before

-- what a packet tells it
abbrev pub said : Packet → Heard
said (packet.Turn t) = Turn t
said (packet.Error message detail) = Error
said packet.Nop = Nothing
said (packet.Extension v) = Nothing

-- the step was done with this reply, and the work behind it
abbrev pub IsDone : Step → Reply → List Pair → List Pair → Type 0
IsDone e r before now = (rs : List Reply) × IsWorkBehind (is_taken r) rs × (now ≡ before ++ (e, r) ∷ worked rs)

-- nothing of the step was done, or a part of the work behind it
abbrev pub IsCut : Step → List Pair → List Pair → Type 0
IsCut e before now = (half : List Pair) × IsCutRound e half × (now ≡ before ++ half)

-- so it was, and why
abbrev pub IsCutFor : Step → List Pair → List Pair → Bool → ReaderEnd → Type 0
IsCutFor e before now spent x = IsCut e before now × ((x ≡ end.NoMemory) ⊎ ((x ≡ end.Spent) × (spent ≡ true)))

-- the connection was closed for this end, and x is how the reader ended
abbrev pub Closes : ℕ → List Pair → List Pair → Bool → ReaderEnd → ReaderEnd → Type 0
Closes k before now spent for x =
    ((r : Reply) × IsDone (steps.Close k) r before now × (x ≡ for)) ⊎ IsCutFor (steps.Close k) before now spent x

-- a step got a reply that isn't Taken, and the reader ended so
abbrev pub IsRefusal : Step → List Pair → List Pair → Bool → ReaderEnd → Type 0
IsRefusal e before now spent x =
    ((r : Reply) × CanBeReplied e r × (is_taken r ≡ false) × IsDone e r before now × (x ≡ end_of r))
    ⊎ IsCutFor e before now spent x

-- a turn was taken, or the reader ended
abbrev pub Sends : ℕ → TurnRecord → List Pair → List Pair → Bool → Option ReaderEnd → Type 0
Sends k t before now spent None = IsDone (steps.Packet k t) reply.Taken before now
Sends k t before now spent (Some x) = IsRefusal (steps.Packet k t) before now spent x

-- ---- how far it is

-- of these bytes some packets were read, and this stream is left; each turn of theirs was taken
pub record IsReading (k : ℕ) (b : List ℕ) (st : StreamState) (before now : List Pair) : Type 0 where
  pub bytes : AreBytes b
  pub packets : List Packet
  pub read : AreRead packets (with_bytes b no_stream) st
  pub no_error : has_error packets ≡ false
  pub rounds : List Round
  pub done : map step_of rounds ≡ packets_due k packets
  pub taken : AreTakenRounds rounds
  pub pairs : now ≡ before ++ pairs_in rounds

-- no packet is next, and none is wrong
abbrev pub IsWaiting : StreamState → Type 0
IsWaiting st = IsNext st.rest st.place next.Waits

-- it reads on, or ended
abbrev pub ReadsOn : ℕ → List ℕ → StreamState → List Pair → List Pair → Bool → Option ReaderEnd → Type 0
ReadsOn k b st before now spent None = IsReading k b st before now
ReadsOn k b st before now spent (Some x) = HasRead k b before now spent x

-- bytes have a course
abbrev pub HaveCourses : Type 0
HaveCourses = (st : StreamState) → AreBytes st.rest → (c : StreamCourse) × ArePacketsOf st c
