-- What stands at the front of what a peer has sent and hasn't been read: each value is decided on its first 262,144
-- bytes, a whole value before all else, then a fault that stands there, and else it is too long or more is to come.
use Rattle.std.specs.Prelude.{◌≡◌, ℕ, ◌+◌, ◌<◌, ◌≤◌, ◌⊎◌, List, take, length}
use Rattle.pv_value.specs.Plain.{Plain}
use Rattle.pv_read.specs.Results.{Fault}
use Rattle.pv_binary.specs.Reads.{BeginsWith}
use Rattle.pv_binary.specs.Fronts.{Stands}
use Rattle.pv_binary.specs.OneOfThree.{AreBytes, IsFront}
use Rattle.rl_packet.specs.declared.packets.Packet.{Packet}
use Rattle.rl_packet.specs.Grammar.{IsPacketOf}
use Rattle.pv_binary.specs.Kinds.{kind_number}
use Rattle.pv_binary.specs.declared.faults.BinKind.{BinKind}
use Rattle.rl_stream.specs.Limits.{packet_bytes}
use Rattle.rl_stream.specs.declared.nexts.Next.{Next}
use Rattle.rl_stream.specs.declared.nexts.Next.TheVariants.{Whole, BadBytes, BadPacket, Waits}

-- the bytes on which the first value is decided
abbrev pub front_of : List ℕ → List ℕ
front_of rest = take packet_bytes rest

-- n bytes spell a value that is no packet
abbrev pub IsNoPacket : List ℕ → ℕ → Type 0
IsNoPacket rest n =
    (v : Plain) × BeginsWith (front_of rest) n v × ((p : Packet) → IsPacketOf v p → ⊥)

-- a fault stands, of this number, at this place of all that was sent
abbrev pub IsFaultyAt : List ℕ → ℕ → ℕ → ℕ → Type 0
IsFaultyAt rest place number at =
    (f : Fault BinKind) × Stands (front_of rest) f × (kind_number f.kind ≡ number) × (place + f.place ≡ at)

-- as many bytes as a packet may have begin a value, and don't end it; it begins here
abbrev pub IsTooLong : List ℕ → ℕ → ℕ → ℕ → Type 0
IsTooLong rest place number at =
    IsFront (front_of rest) × (packet_bytes ≤ length rest) × (number ≡ 9) × (at ≡ place)

-- what is next in the rest, whose first byte is at this place of all that was sent
abbrev pub IsNext : List ℕ → ℕ → Next → Type 0
IsNext rest place (Whole p n) = (v : Plain) × BeginsWith (front_of rest) n v × IsPacketOf v p
IsNext rest place (BadBytes number at) = IsFaultyAt rest place number at ⊎ IsTooLong rest place number at
IsNext rest place BadPacket = (n : ℕ) × IsNoPacket rest n
IsNext rest place Waits = IsFront (front_of rest) × (length rest < packet_bytes)

-- of bytes no two of these stand
abbrev pub OneNext : Type 0
OneNext = (rest : List ℕ) (place : ℕ) (x y : Next) → AreBytes rest → IsNext rest place x → IsNext rest place y → x ≡ y

-- what is next in bytes whose first is at this place, as some function tells it
abbrev pub Decider : Type 0
Decider = List ℕ → ℕ → Next

abbrev pub Decides : Decider → Type 0
Decides N = (rest : List ℕ) (place : ℕ) → AreBytes rest → IsNext rest place (N rest place)

-- there is one
abbrev pub HasDecider : Type 0
HasDecider = (N : Decider) × Decides N

-- what each of them tells
abbrev pub AllTell : List ℕ → ℕ → Next → Type 0
AllTell rest place x = (N : Decider) → Decides N → N rest place ≡ x
