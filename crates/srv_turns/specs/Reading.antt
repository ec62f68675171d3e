-- What a reader commits for the bytes that a peer sent: a packet step for each turn that they spell, in order, and then
-- the one step by which it ends. Where a reply isn't Taken, nothing stands behind its step.
use Rattle.std.specs.Prelude.{◌≡◌, ◌≢◌, ◌⊎◌, ℕ, ◌+◌, ◌-◌, ◌^◌, ◌<◌, List, [], ◌∷◌, ◌++◌, length, map, Bool, true, false}
use Rattle.std.specs.Prelude.{Option, Some, IfSome}
use Rattle.rl_packet.specs.declared.packets.Turn.{Turn as TurnRecord}
use Rattle.rl_packet.specs.declared.packets.Packet.{Packet}
use Rattle.rl_packet.specs.declared.packets.Packet.TheVariants as packet
use Rattle.rl_stream.specs.declared.nexts.Next.{Next}
use Rattle.rl_stream.specs.declared.nexts.Next.TheVariants as next
use Rattle.rl_stream.specs.Streams.{no_stream, with_bytes}
use Rattle.rl_stream.specs.Courses.{StreamCourse, ArePacketsOf}
use Rattle.hub_machine.specs.declared.faults.Fault.TheVariants as fault
use Rattle.hub_machine.specs.declared.steps.Step.{Step}
use Rattle.hub_machine.specs.declared.steps.Step.TheVariants as steps
use Rattle.hub_machine.specs.declared.steps.Reply.{Reply}
use Rattle.hub_machine.specs.declared.steps.Reply.TheVariants as reply
use Rattle.srv_turns.specs.Rounds.{Pair, Round, IsRound, AreTakenRounds, IsCutRound, step_of, pairs_in}
use Rattle.srv_turns.specs.declared.reader.ReaderEnd.{ReaderEnd}
use Rattle.srv_turns.specs.declared.reader.ReaderEnd.TheVariants as end

-- ---- what is due

-- the turns of the packets before the first error
abbrev pub turns_in : List Packet → List TurnRecord
turns_in [] = []
turns_in (packet.Turn t ∷ ps) = t ∷ turns_in ps
turns_in (packet.Error message detail ∷ ps) = []
turns_in (packet.Nop ∷ ps) = turns_in ps
turns_in (packet.Extension v ∷ ps) = turns_in ps

abbrev pub has_error : List Packet → Bool
has_error [] = false
has_error (packet.Turn t ∷ ps) = has_error ps
has_error (packet.Error message detail ∷ ps) = true
has_error (packet.Nop ∷ ps) = has_error ps
has_error (packet.Extension v ∷ ps) = has_error ps

-- the packet steps of connection k
abbrev pub packets_due : ℕ → List Packet → List Step
packets_due k ps = map (λ t. steps.Packet k t) (turns_in ps)

-- the step behind them: what is no packet is bad; the peer's error, and the end of what comes, close the connection
abbrev pub last_due : ℕ → Bool → Next → Step
last_due k false (next.BadBytes number place) = steps.Bad k (fault.BadBytes number place)
last_due k false next.BadPacket = steps.Bad k fault.BadPacket
last_due k error x = steps.Close k

abbrev pub steps_due : ℕ → StreamCourse → List Step
steps_due k c = packets_due k c.packets ++ last_due k (has_error c.packets) c.ends ∷ []

-- ---- what was done

-- all that is due was done up to and with this step, which got this reply; it is the last that is due, or it wasn't
-- taken
pub record IsReadTo (k : ℕ) (c : StreamCourse) (before now : List Pair) (e : Step) (r : Reply) : Type 0 where
  pub front : List Round
  pub work : List Reply
  pub later : List Step
  pub due : steps_due k c ≡ map step_of front ++ e ∷ later
  pub taken : AreTakenRounds front
  pub round : IsRound (record { step = e; reply = r; work = work })
  pub pairs : now ≡ before ++ pairs_in (front ++ record { step = e; reply = r; work = work } ∷ [])
  pub stops : r ≡ reply.Taken → later ≡ []

-- of the first of these steps a part was done, or nothing
abbrev pub IsCutIn : List Step → List Pair → Type 0
IsCutIn [] half = half ≡ []
IsCutIn (e ∷ es) half = IsCutRound e half

-- what is due was done as far as it went
pub record IsReadFront (k : ℕ) (c : StreamCourse) (before now : List Pair) : Type 0 where
  pub front : List Round
  pub half : List Pair
  pub later : List Step
  pub due : steps_due k c ≡ map step_of front ++ later
  pub taken : AreTakenRounds front
  pub cut : IsCutIn later half
  pub pairs : now ≡ before ++ pairs_in front ++ half

-- ---- why a reader ended

-- a packet step or a bad one
abbrev pub is_sent : Step → Bool
is_sent (steps.Packet k t) = true
is_sent (steps.Bad k f) = true
is_sent e = false

-- the last reply was this one, to what the peer sent
abbrev pub EndsBy : ℕ → StreamCourse → List Pair → List Pair → Reply → Type 0
EndsBy k c before now r = (e : Step) × (is_sent e ≡ true) × IsReadTo k c before now e r

-- the connection was closed
abbrev pub IsClosed : ℕ → StreamCourse → List Pair → List Pair → Type 0
IsClosed k c before now = (r : Reply) × IsReadTo k c before now (steps.Close k) r

-- all packets were read, none of them an error, and no fault stands behind them
abbrev pub IsReadOut : StreamCourse → Type 0
IsReadOut c = (has_error c.packets ≡ false) × (c.ends ≡ next.Waits)

-- why the reader of connection k ended, of the bytes with this course, so many; the pairs before it and now, and whether
-- the steps are spent
abbrev pub EndsFor : ℕ → StreamCourse → ℕ → List Pair → List Pair → Bool → ReaderEnd → Type 0
EndsFor k c count before now spent end.Clean = IsClosed k c before now × IsReadOut c × (c.left.rest ≡ [])
EndsFor k c count before now spent end.Cut = IsClosed k c before now × IsReadOut c × (c.left.rest ≢ [])
EndsFor k c count before now spent end.PeerError = IsClosed k c before now × (has_error c.packets ≡ true)
EndsFor k c count before now spent end.ReadFault = IsClosed k c before now × IsReadOut c
EndsFor k c count before now spent (end.Refused f) = EndsBy k c before now (reply.Refused f)
EndsFor k c count before now spent end.Gone = EndsBy k c before now reply.Gone
EndsFor k c count before now spent end.Worn = EndsBy k c before now reply.Worn
EndsFor k c count before now spent end.Spent =
    (IsClosed k c before now × IsReadOut c × (count ≡ 2 ^ 40)) ⊎ (IsReadFront k c before now × (spent ≡ true))
EndsFor k c count before now spent end.NoMemory = IsReadFront k c before now

-- the reader of connection k took these bytes, and ended so
pub record HasRead (k : ℕ) (b : List ℕ) (before now : List Pair) (spent : Bool) (e : ReaderEnd) : Type 0 where
  pub course : StreamCourse
  pub is : ArePacketsOf (with_bytes b no_stream) course
  pub ends : EndsFor k course (length b) before now spent e

-- ---- what was taken from the link

-- these bytes were taken: where the source tells what is left, they were the first of it; and they are counted, as long
-- as the count isn't at its end
pub record AreTaken (b : List ℕ) (left leaves : Option (List ℕ)) (given gives : ℕ) : Type 0 where
  pub told : IfSome left (λ bytes. (rest : List ℕ) × (bytes ≡ b ++ rest) × (leaves ≡ Some rest))
  pub counted : gives < 2 ^ 64 - 1 → gives ≡ given + length b

-- the link ended
abbrev pub is_at_end : ReaderEnd → Bool
is_at_end end.Clean = true
is_at_end end.Cut = true
is_at_end e = false
