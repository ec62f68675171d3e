-- What was committed of a connection's bytes where they were cut, against what is due for the whole.
use Rattle.std.specs.Prelude.{◌≡◌, ◌⊎◌, ℕ, List, [], ◌∷◌, ◌++◌, map, filter, Bool, true, false, not}
use Rattle.rl_stream.specs.Courses.{StreamCourse, is_waiting}
use Rattle.hub_machine.specs.declared.steps.Step.{Step}
use Rattle.hub_machine.specs.declared.steps.Step.TheVariants as steps
use Rattle.srv_turns.specs.Rounds.{Pair}
use Rattle.srv_turns.specs.Reading.{has_error, packets_due, steps_due}
use Rattle.srv_turns.specs.declared.reader.ReaderEnd.{ReaderEnd}
use Rattle.srv_turns.specs.declared.reader.ReaderEnd.TheVariants as end
use Rattle.srv_cuts.specs.Fronts.{IsFrontOf}

-- ---- steps among what was committed

abbrev pub is_packet_step : Step → Bool
is_packet_step (steps.Packet k t) = true
is_packet_step e = false

-- a step that isn't the work behind another
abbrev pub is_own : Step → Bool
is_own steps.Work = false
is_own e = true

abbrev pub steps_of : List Pair → List Step
steps_of ps = map (λ p. p.0) ps

abbrev pub packet_steps : List Pair → List Step
packet_steps ps = filter is_packet_step (steps_of ps)

abbrev pub own_steps : List Pair → List Step
own_steps ps = filter is_own (steps_of ps)

-- ---- the reader of a cut

-- the peer's error stands in it, or what is no packet: no more bytes are to be read
abbrev pub IsDecided : StreamCourse → Type 0
IsDecided c = (has_error c.packets ≡ true) ⊎ (is_waiting c.ends ≡ false)

-- whether a reader got through what came: each packet was taken, and neither memory nor steps ran out
abbrev pub is_through : ReaderEnd → Bool → Bool
is_through end.Clean spent = true
is_through end.Cut spent = true
is_through end.PeerError spent = true
is_through end.ReadFault spent = true
is_through end.Spent spent = not spent
is_through e spent = false

-- the reader of connection k got a stream that was cut, with the course c; that of the whole is d
pub record HasReadAFront (k : ℕ) (c d : StreamCourse) (before now : List Pair) (spent : Bool) (e : ReaderEnd)
    : Type 0 where
  pub done : List Pair
  pub pairs : now ≡ before ++ done
  -- its packets are the first that are due for the whole
  pub packets : IsFrontOf (packet_steps done) (packets_due k d.packets)
  -- its steps are the first that are due for the cut: behind the packets stands one step at most, for the cut's end
  pub own : IsFrontOf (own_steps done) (steps_due k c)
  -- once it is through, they are all packets of the cut, one closing, and nothing else
  pub closes : is_through e spent ≡ true → own_steps done ≡ packets_due k c.packets ++ steps.Close k ∷ []
  -- where the cut is decided, nothing else is due for the whole
  pub same : IsDecided c → steps_due k d ≡ steps_due k c
