-- The packets of a stream: they stand one behind another from the first byte on that isn't read, each next where those
-- before it are read, and behind them stands no packet: a fault, a value that is none, or more is to come.
use Rattle.std.specs.Prelude.{◌≡◌, ℕ, zero, suc, List, [], ◌∷◌, ◌++◌, length, Bool, true, false}
use Rattle.rl_packet.specs.declared.packets.Packet.{Packet}
use Rattle.rl_stream.specs.declared.nexts.Next.{Next}
use Rattle.rl_stream.specs.declared.nexts.Next.TheVariants.{Whole, Waits}
use Rattle.rl_stream.specs.Nexts.{IsNext, Decider}
use Rattle.rl_stream.specs.Streams.{StreamState, with_bytes, read_off}

-- the packets, what is left behind them, and what is next there
pub record StreamCourse : Type 0 where
  pub packets : List Packet
  pub left : StreamState
  pub ends : Next

abbrev pub is_packet : Next → Bool
is_packet (Whole p size) = true
is_packet x = false

abbrev pub is_waiting : Next → Bool
is_waiting Waits = true
is_waiting x = false

-- these packets are next in the stream, one behind another, and this is left when they are read
abbrev pub AreRead : List Packet → StreamState → StreamState → Type 0
AreRead [] st left = left ≡ st
AreRead (p ∷ ps) st left = (size : ℕ) × IsNext st.rest st.place (Whole p size) × AreRead ps (read_off size st) left

-- all the packets of the stream
pub record ArePacketsOf (st : StreamState) (c : StreamCourse) : Type 0 where
  pub packets : AreRead c.packets st c.left
  pub ends : IsNext c.left.rest c.left.place c.ends
  pub no_more : is_packet c.ends ≡ false

-- a course with these packets before its own
abbrev pub behind : List Packet → StreamCourse → StreamCourse
behind ps c = record { packets = ps ++ c.packets; left = c.left; ends = c.ends }

-- a course, from what is left of which another goes on
abbrev pub and_then : (StreamState → StreamCourse) → StreamCourse → StreamCourse
and_then more c = behind c.packets (more c.left)

-- ---- as a decider tells them

-- what is next; behind a packet the course goes on
abbrev pub next_and_then : Next → StreamState → (StreamState → StreamCourse) → StreamCourse
next_and_then (Whole p size) st more = behind (p ∷ []) (more (read_off size st))
next_and_then x st more = record { packets = []; left = st; ends = x }

-- so many packets at most
abbrev pub packets_within : Decider → ℕ → StreamState → StreamCourse
packets_within N zero st = record { packets = []; left = st; ends = Waits }
packets_within N (suc most) st = next_and_then (N st.rest st.place) st (packets_within N most)

-- all of them; each has one byte at least
abbrev pub packets_of : Decider → StreamState → StreamCourse
packets_of N st = packets_within N (suc (length st.rest)) st

-- the bytes come piece by piece, and before each piece all packets are read that are there
abbrev pub packets_by_pieces : Decider → StreamState → List (List ℕ) → StreamCourse
packets_by_pieces N st [] = packets_of N st
packets_by_pieces N st (b ∷ bs) = and_then (λ left. packets_by_pieces N (with_bytes b left) bs) (packets_of N st)
