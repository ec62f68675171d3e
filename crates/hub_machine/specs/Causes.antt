-- Why a packet is refused, in words: its dialect isn't the connection's, it has too many events, or a cause is against
-- one of them and none against those before it.
use Rattle.std.specs.Prelude.{◌≡◌, ◌↔◌, ℕ, ◌<◌, ◌≤◌, ◌⊎◌, List, [], ◌∷◌, ◌++◌, true, false, length, Some, None}
use Rattle.ac_world.specs.Worlds.{WorldState}
use Rattle.rl_packet.specs.declared.packets.TurnEvent.{TurnEvent}
use Rattle.rl_packet.specs.declared.packets.Turn.{Turn}
use Rattle.hub_machine.specs.Limits.{most_events}
use Rattle.hub_machine.specs.Faults.{Fault, BadPacket, Limit}
use Rattle.rl_ports.specs.Ports.{PortsState, speaking}
use Rattle.hub_machine.specs.State.{State, ports_of}
use Rattle.hub_machine.specs.Admission.{Admitting, before_all, cause_of, after, differ}
use Rattle.hub_machine.specs.Machine.{step, is_worn}
use Rattle.hub_machine.specs.declared.steps.Step.TheVariants.{Packet}
use Rattle.hub_machine.specs.declared.steps.Reply.TheVariants.{Refused}

-- what events leave
abbrev pub after_all : ℕ → WorldState → List TurnEvent → Admitting → Admitting
after_all k w [] x = x
after_all k w (e ∷ es) x = after_all k w es (after k w e x)

-- no cause is against any of the events, each as those before it leave what is counted
abbrev pub NoneAgainst : ℕ → WorldState → List TurnEvent → Admitting → Type 0
NoneAgainst k w [] x = Unit {0}
NoneAgainst k w (e ∷ es) x = (cause_of k w e x ≡ None) × NoneAgainst k w es (after k w e x)

-- f is against one of the events, and nothing against those before it
pub record IsFirstCause (k : ℕ) (w : WorldState) (es : List TurnEvent) (x : Admitting) (f : Fault) : Type 0 where
  pub before : List TurnEvent
  pub event : TurnEvent
  pub later : List TurnEvent
  pub are : es ≡ before ++ event ∷ later
  pub free : NoneAgainst k w before x
  pub cause : cause_of k w event (after_all k w before x) ≡ Some f

-- the cause is among the events
abbrev pub IsCauseWithin : ℕ → PortsState → WorldState → List TurnEvent → Fault → Type 0
IsCauseWithin k ports w es f =
    ((most_events < length es) × (f ≡ Limit 3 (length es)))
    ⊎ ((length es ≤ most_events) × IsFirstCause k w es (before_all k ports w) f)

abbrev pub IsCause : ℕ → PortsState → WorldState → Turn → Fault → Type 0
IsCause k ports w t f =
    ((differ t.dialect ports.dialect ≡ true) × (f ≡ BadPacket))
    ⊎ ((differ t.dialect ports.dialect ≡ false) × IsCauseWithin k (speaking t.dialect ports) w t.events f)

-- a packet of a live connection is refused for exactly its cause
abbrev pub RefusedForItsCause : Type 0
RefusedForItsCause =
    (s : State) (k : ℕ) (t : Turn) (ports : PortsState) (f : Fault) → is_worn s (Packet k t) ≡ false
    → ports_of k s ≡ Some ports
    → ((step s (Packet k t)).reply ≡ Refused f) ↔ IsCause k ports s.world t f
