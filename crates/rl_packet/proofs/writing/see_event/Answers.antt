use Rattle.std.proofs.Common.{sym, subst}
use Rattle.pv_value.specs.WellFormed.{IsWellFormed}
use Rattle.rl_packet.specs.Packets.{Event, Assert, Retract, Message, Sync, event_value}
use Rattle.rl_packet.proofs.Sound.{event_sound}
use Rattle.rl_packet.proofs.writing.see_event.Goals as goal

pub returns-in-Assert : goal.returns-in-Assert
returns-in-Assert c =
    λ d.
    subst (λ (e : Event). IsWellFormed (event_value d e)) (sym c.in-Assert.is)
    (event_sound d (Assert c.in-Assert.value c.in-Assert.handle)
    (subst IsWellFormed c.value.view_is c.value.invariant, (c.see_number.ensures, tt)))

pub returns-in-Retract : goal.returns-in-Retract
returns-in-Retract c =
    λ d.
    subst (λ (e : Event). IsWellFormed (event_value d e)) (sym c.in-Retract.is)
    (event_sound d (Retract c.in-Retract.handle) (c.see_number-in-Retract.ensures, tt))

pub returns-in-Message : goal.returns-in-Message
returns-in-Message c =
    λ d.
    subst (λ (e : Event). IsWellFormed (event_value d e)) (sym c.in-Message.is)
    (event_sound d (Message c.in-Message.body) (subst IsWellFormed c.body.view_is c.body.invariant, tt))

pub returns-in-Sync : goal.returns-in-Sync
returns-in-Sync c =
    λ d.
    subst (λ (e : Event). IsWellFormed (event_value d e)) (sym c.in-Sync.is)
    (event_sound d (Sync c.in-Sync.peer) (subst IsWellFormed c.peer.view_is c.peer.invariant, tt))
