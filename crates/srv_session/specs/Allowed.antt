-- That a step is allowed is a fact of one proof at most.
use Rattle.std.specs.List.{AllByRecursion-prop}
use Rattle.std.specs.Coded.{Coded-set, ×_prop, Unit-prop, le_prop}
use Rattle.std.proofs.Math.Bool.{Bool-set}
use Rattle.sr_caveat.specs.Caps.{Cap, IsSound, IsReadBack}
use Rattle.sr_caveat.specs.Lemmas.Coded.{caveat_code}
use Rattle.rl_packet.specs.Wired.{IsEvent, IsTurnEvent}
use Rattle.rl_packet.specs.declared.packets.Event.{Event}
use Rattle.rl_packet.specs.declared.packets.Event.TheVariants.{Assert, Retract, Message, Sync}
use Rattle.rl_packet.specs.declared.packets.TurnEvent.{TurnEvent}
use Rattle.hub_machine.specs.State.{State}
use Rattle.hub_machine.specs.Machine.{IsAllowed}
use Rattle.hub_machine.specs.declared.steps.Step.{Step}
use Rattle.hub_machine.specs.declared.steps.Step.TheVariants.{Bind, Watch, Arrive, Packet, Bad, Close, Turn, Work, Stop}

event_once : (e : Event) → IsProp (IsEvent e)
event_once (Assert v h) = ×_prop (Bool-set _ _) le_prop
event_once (Retract h) = le_prop
event_once (Message v) = Bool-set _ _
event_once (Sync peer) = Bool-set _ _

turn_event_once : (e : TurnEvent) → IsProp (IsTurnEvent e)
turn_event_once e = ×_prop le_prop (event_once e.event)

sound_once : (c : Cap) → IsProp (IsSound c)
sound_once c p q =
    let caveats = AllByRecursion-prop IsReadBack (λ d. Coded-set caveat_code _ _) c.caveats p.2 q.2 in
    λ i. (le_prop p.0 q.0 i, le_prop p.1 q.1 i, caveats i)

pub allowed_once : (s : State) (e : Step) → IsProp (IsAllowed s e)
allowed_once s (Bind b) = sound_once b.cap
allowed_once s (Watch x) = Unit-prop
allowed_once s (Arrive space) = Unit-prop
allowed_once s (Packet k t) = AllByRecursion-prop IsTurnEvent turn_event_once t.events
allowed_once s (Bad k f) = Unit-prop
allowed_once s (Close k) = Unit-prop
allowed_once s (Turn a) = Unit-prop
allowed_once s Work = Unit-prop
allowed_once s Stop = Unit-prop
