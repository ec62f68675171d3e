-- Laws of the packets of a stream.
use Rattle.std.specs.Prelude.{◌≡◌, ℕ, List, false}
use Rattle.std.specs.List.{concat}
use Rattle.pv_binary.specs.OneOfThree.{AreBytes}
use Rattle.rl_stream.specs.Nexts.{Decider, Decides}
use Rattle.rl_stream.specs.Streams.{StreamState, no_stream, with_bytes}
use Rattle.rl_stream.specs.Courses.{StreamCourse, ArePacketsOf, behind, is_waiting, packets_of, packets_by_pieces}

-- a stream of bytes has its packets, which each decider tells
abbrev pub DecidersTellPackets : Type 0
DecidersTellPackets = (N : Decider) → Decides N → (st : StreamState) → AreBytes st.rest
    → ArePacketsOf st (packets_of N st)

-- and it has no others
abbrev pub OneCourse : Type 0
OneCourse = (st : StreamState) (c d : StreamCourse) → AreBytes st.rest → ArePacketsOf st c → ArePacketsOf st d → c ≡ d

-- the packets that were read, and those that are read with more bytes behind what was left, are those of all the bytes
abbrev pub ReadingGoesOn : Type 0
ReadingGoesOn = (st : StreamState) (more : List ℕ) (c d : StreamCourse)
    → ArePacketsOf st c → ArePacketsOf (with_bytes more c.left) d
    → ArePacketsOf (with_bytes more st) (behind c.packets d)

-- what isn't waited for stays as it is whatever comes behind it
abbrev pub EndsStay : Type 0
EndsStay = (st : StreamState) (more : List ℕ) (c : StreamCourse) → ArePacketsOf st c → is_waiting c.ends ≡ false
    → ArePacketsOf (with_bytes more st)
    (record { packets = c.packets; left = with_bytes more c.left; ends = c.ends })

-- bytes that come in pieces, wherever they are cut, have the packets that they have as a whole
abbrev pub AnyCutIsOneCourse : Type 0
AnyCutIsOneCourse = (N : Decider) → Decides N → (pieces : List (List ℕ)) → AreBytes (concat pieces)
    → packets_by_pieces N no_stream pieces ≡ packets_of N (with_bytes (concat pieces) no_stream)
