-- Which replies a step can get: those that the machine gives to it in some state.
use Rattle.std.specs.Prelude.{◌≡◌, ℕ}
use Rattle.rl_packet.specs.declared.packets.Turn.{Turn as TurnRecord}
use Rattle.hub_machine.specs.State.{State}
use Rattle.hub_machine.specs.Machine.{step}
use Rattle.hub_machine.specs.declared.faults.Fault.{Fault}
use Rattle.hub_machine.specs.declared.steps.Step.{Step}
use Rattle.hub_machine.specs.declared.steps.Step.TheVariants.{Packet, Bad}
use Rattle.hub_machine.specs.declared.steps.Reply.{Reply}
use Rattle.hub_machine.specs.declared.steps.Reply.TheVariants.{Worn, Gone, Refused, Taken}

abbrev pub CanBeReplied : Step → Reply → Type 0
CanBeReplied e r = (s : State) × ((step s e).reply ≡ r)

-- ---- laws: what that is for a packet, and for what is none

abbrev pub IsPacketReply : Reply → Type 0
IsPacketReply Worn = Unit {0}
IsPacketReply Gone = Unit {0}
IsPacketReply (Refused f) = Unit {0}
IsPacketReply Taken = Unit {0}
IsPacketReply r = ⊥

abbrev pub IsBadReply : Reply → Type 0
IsBadReply Worn = Unit {0}
IsBadReply Gone = Unit {0}
IsBadReply (Refused f) = Unit {0}
IsBadReply r = ⊥

abbrev pub PacketsAreReplied : Type 0
PacketsAreReplied = (k : ℕ) (t : TurnRecord) (r : Reply) → CanBeReplied (Packet k t) r → IsPacketReply r

abbrev pub BadIsReplied : Type 0
BadIsReplied = (k : ℕ) (f : Fault) (r : Reply) → CanBeReplied (Bad k f) r → IsBadReply r
