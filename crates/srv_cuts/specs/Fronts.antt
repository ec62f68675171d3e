-- What the first bytes of a stream tell of the whole.
use Rattle.std.specs.Prelude.{◌≡◌, ℕ, List, ◌++◌, false}
use Rattle.rl_stream.specs.Streams.{with_bytes}
use Rattle.rl_stream.specs.Courses.{StreamCourse, is_waiting}

-- the first list is the front of the second
abbrev pub IsFrontOf : {X : Type 0} → List X → List X → Type 0
IsFrontOf {X} xs ys = (later : List X) × (ys ≡ xs ++ later)

-- the same course, with more bytes behind what is left
abbrev pub with_more : List ℕ → StreamCourse → StreamCourse
with_more more c = record { packets = c.packets; left = with_bytes more c.left; ends = c.ends }

-- c is the course of a stream that was cut, and d that of the whole, which has these bytes more
pub record IsCutOf (more : List ℕ) (c d : StreamCourse) : Type 0 where
  pub packets : IsFrontOf c.packets d.packets
  -- unless it waits, more bytes change nothing
  pub decided : is_waiting c.ends ≡ false → d ≡ with_more more c
