-- A source in memory: what it answers to a take, and what it is then.
use Rattle.std.specs.Prelude.{ℕ, min, Bool, true, false, List, [], ◌∷◌, ◌++◌, length, take, drop, if◌then◌else◌}
use Rattle.out_ports.specs.declared.ports.Took.{Took}
use Rattle.out_ports.specs.declared.ports.Took.TheVariants as took
use Rattle.out_ports.specs.Ports.{given_after, ended_after}
use Rattle.out_ports.specs.Calls.{CallCounts, before_calls, is_next_listed, after_call}

-- what is left, how many bytes were given, how many are given at once at most, whether a take has answered the end, the
-- calls, and whether it was settled
pub record ToldSource : Type 0 where
  pub left : List ℕ
  pub given : ℕ
  pub piece : ℕ
  pub ended : Bool
  pub calls : CallCounts
  pub settled : Bool

-- a source of these bytes, before the first take
abbrev pub source_of : List ℕ → ℕ → List ℕ → ToldSource
source_of bytes piece failing = record {
  left = bytes;
  given = 0;
  piece = piece;
  ended = false;
  calls = before_calls failing;
  settled = false;
}

-- the end where nothing is left, and else a piece as long as what is left, the longest piece and the buffer allow
abbrev pub next_piece : List ℕ → ℕ → ℕ → Took
next_piece [] piece room = took.End
next_piece (byte ∷ left) piece room = took.Some (min (min (length (byte ∷ left)) piece) room)

-- the answer to a take into a buffer of so many bytes
abbrev pub take_answer : ToldSource → ℕ → Took
take_answer source room =
    if is_next_listed source.calls then took.Failed else next_piece source.left source.piece room

-- what a take leaves in the buffer: a piece stands at its front, and nothing else is written
abbrev pub buffer_after : Took → List ℕ → List ℕ → List ℕ
buffer_after (took.Some n) left buf = take n left ++ drop n buf
buffer_after took.End left buf = buf
buffer_after took.Failed left buf = buf

-- what is left after a take
abbrev pub left_after : Took → List ℕ → List ℕ
left_after (took.Some n) left = drop n left
left_after took.End left = left
left_after took.Failed left = left

-- whether a take failed
abbrev pub take_failed : Took → Bool
take_failed (took.Some n) = false
take_failed took.End = false
take_failed took.Failed = true

-- the source after a take
abbrev pub after_take : Took → ToldSource → ToldSource
after_take answer source = record {
  left = left_after answer source.left;
  given = given_after answer source.given;
  piece = source.piece;
  ended = ended_after answer source.ended;
  calls = after_call (take_failed answer) source.calls;
  settled = source.settled;
}
