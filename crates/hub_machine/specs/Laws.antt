-- Laws of the machine.
use Rattle.std.specs.Prelude.{◌≡◌, ℕ}
use Rattle.rl_packet.specs.declared.packets.Turn.{Turn as TurnRecord}
use Rattle.hub_machine.specs.Faults.{Fault}
use Rattle.hub_machine.specs.State.{State}
use Rattle.hub_machine.specs.Machine.{step}
use Rattle.hub_machine.specs.declared.steps.Step.{Step}
use Rattle.hub_machine.specs.declared.steps.Step.TheVariants.{Packet, Bad}
use Rattle.hub_machine.specs.declared.steps.Reply.{Reply}
use Rattle.hub_machine.specs.declared.steps.Reply.TheVariants.{Worn, Barred, Halted, Full, Opened, Gone, Refused, Idle}
use Rattle.hub_machine.specs.declared.steps.Reply.TheVariants.{Sent, Ran, Taken}

-- the replies that say that nothing changed
abbrev pub IsRefusal : Reply → Type 0
IsRefusal Worn = Unit {0}
IsRefusal Barred = Unit {0}
IsRefusal Halted = Unit {0}
IsRefusal Full = Unit {0}
IsRefusal (Opened k) = ⊥
IsRefusal Gone = Unit {0}
IsRefusal (Refused f) = ⊥
IsRefusal Idle = Unit {0}
IsRefusal (Sent p) = ⊥
IsRefusal Ran = ⊥
IsRefusal Taken = ⊥

abbrev pub RefusalChangesNothing : Type 0
RefusalChangesNothing = (s : State) (e : Step) → IsRefusal (step s e).reply → (step s e).state ≡ s

-- a packet that is refused leaves what its fault alone would leave
abbrev pub RefusedLeavesNothing : Type 0
RefusedLeavesNothing =
    (s : State) (k : ℕ) (t : TurnRecord) (f : Fault) → (step s (Packet k t)).reply ≡ Refused f
    → step s (Packet k t) ≡ step s (Bad k f)
