-- Laws of what packets bring.
use Rattle.std.specs.Prelude.{◌≡◌, ℕ, ◌+◌, Bool, false, ◌==◌, ◌&&◌, List, ◌++◌, count_by, Ok}
use Rattle.pv_value.specs.Plain.{Plain}
use Rattle.rl_packet.specs.declared.packets.Packet.{Packet}
use Rattle.rl_packet.specs.Holding.{held}
use Rattle.rl_packet.specs.declared.holding.Holding.{Holding}
use Rattle.dq_core.specs.declared.lines.Line.{Line}
use Rattle.dq_core.specs.declared.lines.Line.TheVariants.{Added, Removed}
use Rattle.dq_core.specs.States.{ClientState}
use Rattle.dq_core.specs.Clients.{begun}
use Rattle.dq_core.specs.Reactions.{told, behind, lines_in}

-- a line tells that a value is asserted that passes a test, or that an assertion of one is taken back
abbrev pub adds : (Plain → Bool) → Line → Bool
adds test (Added v) = test v
adds test l = false

abbrev pub removes : (Plain → Bool) → Line → Bool
removes test (Removed v) = test v
removes test l = false

-- it is held at this object, and its value passes a test
abbrev pub stands_at : ℕ → (Plain → Bool) → Holding → Bool
stands_at oid test h = (h.oid == oid) && test h.value

-- the values that lines add are, as a bag, those that they remove and those that are held at object 2: of each kind of
-- value there are as many
abbrev pub AreHeldToo : List Line → List Holding → Type 0
AreHeldToo ls hs =
    (test : Plain → Bool) → count_by (adds test) ls ≡ count_by (removes test) ls + count_by (stands_at 2 test) hs

-- so it is after any packets without a fault
abbrev pub AddedLinesAreHeld : Type 0
AddedLinesAreHeld = (pattern : Plain) (ps : List Packet) (c : ClientState)
    → (told ps (begun pattern)).ends ≡ Ok c → AreHeldToo (lines_in (told ps (begun pattern)).reactions) (held ps)

-- what packets without a fault bring, and then others
abbrev pub PacketsGoOn : Type 0
PacketsGoOn = (ps qs : List Packet) (c d : ClientState) → (told ps c).ends ≡ Ok d
    → told (ps ++ qs) c ≡ behind (told ps c).reactions (told qs d)
