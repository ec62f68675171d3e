-- Laws of streams that are cut.
use Rattle.std.specs.Prelude.{ℕ, List, ◌++◌, Bool}
use Rattle.pv_binary.specs.OneOfThree.{AreBytes}
use Rattle.rl_stream.specs.Streams.{StreamState, no_stream, with_bytes}
use Rattle.rl_stream.specs.Courses.{StreamCourse, ArePacketsOf}
use Rattle.srv_turns.specs.Rounds.{Pair}
use Rattle.srv_turns.specs.Reading.{HasRead}
use Rattle.srv_turns.specs.declared.reader.ReaderEnd.{ReaderEnd}
use Rattle.srv_cuts.specs.Fronts.{IsCutOf}
use Rattle.srv_cuts.specs.Committed.{HasReadAFront}

-- of a stream, cut anywhere, and of the whole
abbrev pub CutsAreFronts : Type 0
CutsAreFronts = (st : StreamState) (more : List ℕ) (c d : StreamCourse) → AreBytes (st.rest ++ more)
    → ArePacketsOf st c → ArePacketsOf (with_bytes more st) d → IsCutOf more c d

-- of a reader that got the bytes b, and no more of those that were sent
abbrev pub CutReadersReadAFront : Type 0
CutReadersReadAFront =
    (k : ℕ) (b more : List ℕ) (c d : StreamCourse) (before now : List Pair) (spent : Bool) (e : ReaderEnd)
    → AreBytes (b ++ more) → ArePacketsOf (with_bytes b no_stream) c → ArePacketsOf (with_bytes (b ++ more) no_stream) d
    → HasRead k b before now spent e → HasReadAFront k c d before now spent e
