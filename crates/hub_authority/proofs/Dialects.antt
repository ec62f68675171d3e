-- No event of a packet changes the connection's dialect.
use Rattle.std.proofs.Common.{◌≡◌, ℕ, List, [], ◌∷◌, Option, Some, None, refl, ◌∙◌, length}
use Rattle.pv_value.specs.Plain.{Plain}
use Rattle.sr_caveat.specs.declared.caps.Cap.{Cap}
use Rattle.ac_world.specs.Worlds.{WorldState}
use Rattle.rl_packet.specs.declared.packets.Dialect.{Dialect}
use Rattle.rl_packet.specs.declared.packets.Event.{Event}
use Rattle.rl_packet.specs.declared.packets.Event.TheVariants.{Assert, Retract, Message, Sync}
use Rattle.rl_packet.specs.declared.packets.TurnEvent.{TurnEvent}
use Rattle.rl_ports.specs.declared.ports.Inbound.{Inbound}
use Rattle.rl_ports.specs.declared.ports.Inbound.TheVariants.{Row, Refused}
use Rattle.rl_ports.specs.Ports.{PortsState, inbound_of}
use Rattle.hub_machine.specs.Limits.{most_events}
use Rattle.hub_machine.specs.declared.faults.Fault.{Fault}
use Rattle.hub_machine.specs.Faults.{over}
use Rattle.hub_machine.specs.Admission.{Admitting, admitted, before_all, unless, all_admitted, admission}
use Rattle.hub_machine.specs.Admission.{Aim, object, stale, unknown, aim_at, cause_of, through, peer_kept, after}
use Rattle.hub_machine.specs.Admission.{after_at, after_assertion, after_retraction, after_message, after_sync}

-- what was fixed is so afterwards
abbrev pub StaysFixed : Option Dialect → Option Dialect → Type 0
StaysFixed before later = (d : Dialect) → before ≡ Some d → later ≡ Some d

dialect_asserted : (to : Cap) (o : Option Plain) (h : ℕ) (w : WorldState) (x : Admitting)
    → (after_assertion w to o h x).ports.dialect ≡ x.ports.dialect
dialect_asserted to None h w x = refl
dialect_asserted to (Some v) h w x = refl

dialect_retracted : (h : ℕ) (o : Option Inbound) (w : WorldState) (x : Admitting)
    → (after_retraction h o w x).ports.dialect ≡ x.ports.dialect
dialect_retracted h None w x = refl
dialect_retracted h (Some Refused) w x = refl
dialect_retracted h (Some (Row n)) w x = refl

dialect_messaged : (to : Cap) (o : Option Plain) (w : WorldState) (x : Admitting)
    → (after_message w to o x).ports.dialect ≡ x.ports.dialect
dialect_messaged to None w x = refl
dialect_messaged to (Some v) w x = refl

dialect_synced : (to : Cap) (o : Option Plain) (w : WorldState) (x : Admitting)
    → (after_sync w to o x).ports.dialect ≡ x.ports.dialect
dialect_synced to None w x = refl
dialect_synced to (Some v) w x = refl

dialect_after : (k : ℕ) (w : WorldState) (o : Aim) (e : Event) (x : Admitting)
    → (after_at k w o e x).ports.dialect ≡ x.ports.dialect
dialect_after k w (object to) (Assert v h) x = dialect_asserted to (through k w to v x) h w x
dialect_after k w (object to) (Retract h) x = dialect_retracted h (inbound_of h x.ports) w x
dialect_after k w (object to) (Message v) x = dialect_messaged to (through k w to v x) w x
dialect_after k w (object to) (Sync peer) x = dialect_synced to (peer_kept k peer x) w x
dialect_after k w stale (Assert v h) x = refl
dialect_after k w stale (Retract h) x = dialect_retracted h (inbound_of h x.ports) w x
dialect_after k w stale (Message v) x = refl
dialect_after k w stale (Sync peer) x = refl
dialect_after k w unknown e x = refl

dialect_after_all : (k : ℕ) (w : WorldState) (es : List TurnEvent) (x y : Admitting)
    → all_admitted k w es x ≡ admitted y → y.ports.dialect ≡ x.ports.dialect
dialect_after_all k w [] x y is = let same : x ≡ y = cc in rw same refl
dialect_after_all k w (e ∷ es) x y is = by (cause_of k w e x) is (dialect_after_all k w es (after k w e x) y)
  where
    by : (o : Option Fault) → unless o (all_admitted k w es (after k w e x)) ≡ admitted y
        → (all_admitted k w es (after k w e x) ≡ admitted y → y.ports.dialect ≡ (after k w e x).ports.dialect)
        → y.ports.dialect ≡ x.ports.dialect
    by None is later = later is ∙ dialect_after k w (aim_at e.oid x.ports) e.event x
    by (Some f) is later = absurd cc

-- that of the ports with which the first event is looked at
pub dialect_stays : (k : ℕ) (ports : PortsState) (w : WorldState) (es : List TurnEvent) (x : Admitting)
    → admission k ports w es ≡ admitted x → x.ports.dialect ≡ ports.dialect
dialect_stays k ports w es x is = by (over most_events 3 (length es)) is
  where
    by : (o : Option Fault) → unless o (all_admitted k w es (before_all k ports w)) ≡ admitted x
        → x.ports.dialect ≡ ports.dialect
    by None is = dialect_after_all k w es (before_all k ports w) x is
    by (Some f) is = absurd cc
