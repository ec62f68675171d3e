-- What a writer commits, and what it puts: turns of one connection, and the packets that these send, as they are written.
use Rattle.std.specs.Prelude.{◌≡◌, ◌⊎◌, ℕ, ◌+◌, List, [], ◌∷◌, ◌++◌, map, Bool, true, false, Option}
use Rattle.std.specs.List.{flat_map, AllByRecursion}
use Rattle.out_ports.specs.Ports.{Appends, AppendsFront}
use Rattle.pv_binary.specs.Written.{written}
use Rattle.rl_packet.specs.Packets.{packet_value}
use Rattle.hub_machine.specs.declared.steps.Step.TheVariants.{Close, Turn}
use Rattle.hub_machine.specs.declared.steps.Reply.{Reply}
use Rattle.hub_machine.specs.declared.steps.Reply.TheVariants.{Worn, Gone, Sent}
use Rattle.srv_turns.specs.Rounds.{Pair, IsCutRound, IsWorkBehind, is_taken, worked}
use Rattle.srv_turns.specs.declared.writer.WriterEnd.{WriterEnd}
use Rattle.srv_turns.specs.declared.writer.WriterEnd.TheVariants as end

-- turns of connection k with these replies
abbrev pub turned : ℕ → List Reply → List Pair
turned k rs = map (λ r. (Turn (16 + k), r)) rs

-- the written spelling of the packet that a reply sends
abbrev pub spelled_of : Reply → List ℕ
spelled_of (Sent p) = written (packet_value p)
spelled_of r = []

-- those of the packets that these replies send, one behind another
abbrev pub spelled_in : List Reply → List ℕ
spelled_in rs = flat_map spelled_of rs

-- a reply behind which a writer goes on
abbrev pub is_for_more_turns : Reply → Bool
is_for_more_turns Gone = false
is_for_more_turns Worn = false
is_for_more_turns r = true

abbrev pub AreForMoreTurns : List Reply → Type 0
AreForMoreTurns rs = AllByRecursion (λ r. is_for_more_turns r ≡ true) rs

-- this reply is the last, and behind each of the others a writer goes on
abbrev pub IsLastTurn : List Reply → Reply → Type 0
IsLastTurn rs r = (front : List Reply) × AreForMoreTurns front × (rs ≡ front ++ r ∷ [])

-- a writer goes on behind each of the replies, but maybe the last
abbrev pub AreTurns : List Reply → Type 0
AreTurns rs = AreForMoreTurns rs ⊎ ((r : Reply) × IsLastTurn rs r)

-- the turns alone
abbrev pub AreTurned : ℕ → List Reply → List Pair → List Pair → Type 0
AreTurned k rs before now = now ≡ before ++ turned k rs

-- behind the turns nothing of a closing was done, or the connection was closed and the work behind that was begun
abbrev pub IsCutClosing : ℕ → List Reply → List Pair → List Pair → Type 0
IsCutClosing k rs before now = (half : List Pair) × IsCutRound (Close k) half × (now ≡ before ++ turned k rs ++ half)

-- behind the turns the connection was closed, and the work behind that was done; or that was cut, since the steps are
-- spent
abbrev pub AreClosed : ℕ → List Reply → List Pair → List Pair → Bool → Type 0
AreClosed k rs before now spent =
    ((r : Reply) × (work : List Reply) × IsWorkBehind (is_taken r) work
    × (now ≡ before ++ turned k rs ++ (Close k, r) ∷ worked work))
    ⊎ (IsCutClosing k rs before now × (spent ≡ true))

-- how a writer of connection k ended: the pairs before it and now, whether the steps are spent, and what the sink held
-- and holds
abbrev pub HasWritten : ℕ → List Reply → List Pair → List Pair → Bool → Option (List ℕ) → Option (List ℕ)
    → WriterEnd → Type 0
HasWritten k rs before now spent held holds end.Ended =
    IsLastTurn rs Gone × AreTurned k rs before now × Appends held holds (spelled_in rs)
HasWritten k rs before now spent held holds end.Worn =
    IsLastTurn rs Worn × AreTurned k rs before now × Appends held holds (spelled_in rs)
HasWritten k rs before now spent held holds end.WriteFault =
    AreTurns rs × AreClosed k rs before now spent × AppendsFront held holds (spelled_in rs)
HasWritten k rs before now spent held holds end.Spent =
    AreForMoreTurns rs × AreTurned k rs before now × Appends held holds (spelled_in rs) × (spent ≡ true)
HasWritten k rs before now spent held holds end.NoMemory =
    AreTurns rs × IsCutClosing k rs before now × AppendsFront held holds (spelled_in rs)
