-- A packet is refused for exactly its cause.
use Rattle.std.proofs.Common.{◌≡◌, ℕ, Bool, true, false, cond, nat_lt, List, [], ◌∷◌, ◌++◌, length, Option}
use Rattle.std.proofs.Common.{Some}
use Rattle.std.proofs.Common.{None, refl, sym, ap, ◌∙◌, arith}
use Rattle.std.proofs.Common.{inl, inr}
use Rattle.std.proofs.lemmas.Bool.Decides.{nat_tests}
use Rattle.ac_world.specs.Worlds.{WorldState}
use Rattle.rl_packet.specs.declared.packets.TurnEvent.{TurnEvent}
use Rattle.rl_packet.specs.declared.packets.Turn.{Turn}
use Rattle.hub_machine.specs.Limits.{most_events}
use Rattle.hub_machine.specs.Faults.{Fault, BadPacket, Limit, where_it_is}
use Rattle.rl_ports.specs.Ports.{PortsState, speaking}
use Rattle.hub_machine.specs.State.{State, ports_of}
use Rattle.hub_machine.specs.Admission.{Admitting, Admitted, refused, admitted, before_all, cause_of, after, unless}
use Rattle.hub_machine.specs.Admission.{all_admitted, admission, differ, turn_admission}
use Rattle.hub_machine.specs.Causes.{after_all, NoneAgainst, IsFirstCause, IsCauseWithin, IsCause, RefusedForItsCause}
use Rattle.hub_machine.specs.Endings.{nameless}
use Rattle.hub_machine.specs.Machine.{step, is_worn, unchanged, packet_at, judged}
use Rattle.hub_machine.specs.declared.steps.Step.TheVariants.{Packet}
use Rattle.hub_machine.specs.declared.steps.Reply.TheVariants.{Worn, Refused}

-- ---- the events

refused_first : (k : ℕ) (w : WorldState) (e : TurnEvent) (es : List TurnEvent) (x : Admitting) (f : Fault)
    → cause_of k w e x ≡ Some f → IsFirstCause k w (e ∷ es) x f
refused_first k w e es x f is =
    record { before = []; event = e; later = es; are = refl; free = tt; cause = is }

refused_later : (k : ℕ) (w : WorldState) (e : TurnEvent) (es : List TurnEvent) (x : Admitting) (f : Fault)
    → cause_of k w e x ≡ None → IsFirstCause k w es (after k w e x) f → IsFirstCause k w (e ∷ es) x f
refused_later k w e es x f none c = record {
  before = e ∷ c.before;
  event = c.event;
  later = c.later;
  are = ap (λ ds. e ∷ ds) c.are;
  free = (none, c.free);
  cause = c.cause;
}

has_cause : (k : ℕ) (w : WorldState) (es : List TurnEvent) (x : Admitting) (f : Fault)
    → all_admitted k w es x ≡ refused f → IsFirstCause k w es x f
has_cause k w [] x f is = absurd cc
has_cause k w (e ∷ es) x f is =
    by (cause_of k w e x) refl is (has_cause k w es (after k w e x) f)
  where
    by : (c : Option Fault) → cause_of k w e x ≡ c
        → unless c (all_admitted k w es (after k w e x)) ≡ refused f
        → (all_admitted k w es (after k w e x) ≡ refused f
        → IsFirstCause k w es (after k w e x) f) → IsFirstCause k w (e ∷ es) x f
    by None none is later = refused_later k w e es x f none (later is)
    by (Some g) some is later = let same : g ≡ f = cc in refused_first k w e es x f (some ∙ ap Some same)

is_refused : (k : ℕ) (w : WorldState) (before : List TurnEvent) (e : TurnEvent) (later : List TurnEvent)
    (x : Admitting) (f : Fault) → NoneAgainst k w before x → cause_of k w e (after_all k w before x) ≡ Some f
    → all_admitted k w (before ++ e ∷ later) x ≡ refused f
is_refused k w [] e later x f free is = ap (λ c. unless c (all_admitted k w later (after k w e x))) is
is_refused k w (d ∷ ds) e later x f free is =
    ap (λ c. unless c (all_admitted k w (ds ++ e ∷ later) (after k w d x))) free.0
    ∙ is_refused k w ds e later (after k w d x) f free.1 is

-- ---- the packet

is_cause : (k : ℕ) (ports : PortsState) (w : WorldState) (es : List TurnEvent) (f : Fault)
    → admission k ports w es ≡ refused f → IsCauseWithin k ports w es f
is_cause k ports w es f is = by (nat_lt most_events (length es)) refl is
  where
    by : (b : Bool) → nat_lt most_events (length es) ≡ b
        → unless (cond b (Some (Limit 3 (length es))) None) (all_admitted k w es (before_all k ports w)) ≡ refused f
        → IsCauseWithin k ports w es f
    by true many is = let same : f ≡ Limit 3 (length es) = cc in inl (grind (arith, nat_tests, many), same)
    by false few is = inr (grind (arith, nat_tests, few), has_cause k w es (before_all k ports w) f is)

cause_refuses : (k : ℕ) (ports : PortsState) (w : WorldState) (es : List TurnEvent) (f : Fault)
    → IsCauseWithin k ports w es f → admission k ports w es ≡ refused f
cause_refuses k ports w es f (inl c) =
    let many : nat_lt most_events (length es) ≡ true = grind (arith, nat_tests, c.0) in
    ap (λ b. unless (cond b (Some (Limit 3 (length es))) None) (all_admitted k w es (before_all k ports w))) many
    ∙ ap refused (sym c.1)
cause_refuses k ports w es f (inr c) =
    let few : nat_lt most_events (length es) ≡ false = grind (arith, nat_tests, c.0) in
    ap (λ b. unless (cond b (Some (Limit 3 (length es))) None) (all_admitted k w es (before_all k ports w))) few
    ∙ (ap (λ ds. all_admitted k w ds (before_all k ports w)) c.1.are
    ∙ is_refused k w c.1.before c.1.event c.1.later (before_all k ports w) f c.1.free c.1.cause)

-- what is judged is refused for no other fault
judged_refused : (k : ℕ) (d : Admitted) (s : State) (f : Fault) → (judged k d s).reply ≡ Refused f → d ≡ refused f
judged_refused k (refused g) s f is = let same : g ≡ f = cc in ap refused same
judged_refused k (admitted x) s f is = absurd cc

reply_is : (s : State) (k : ℕ) (t : Turn) (ports : PortsState) → is_worn s (Packet k t) ≡ false
    → ports_of k s ≡ Some ports → (step s (Packet k t)).reply
    ≡ (judged k (turn_admission k ports s.world t) (nameless k s)).reply
reply_is s k t ports fresh there =
    ap (λ b. (cond b (unchanged s Worn) (packet_at k (ports_of k s) t s)).reply) fresh
    ∙ ap (λ o. (packet_at k o t s).reply) there

-- the dialect first, and then what is among the events
turn_cause : (k : ℕ) (ports : PortsState) (w : WorldState) (t : Turn) (f : Fault)
    → turn_admission k ports w t ≡ refused f → IsCause k ports w t f
turn_cause k ports w t f is = by (differ t.dialect ports.dialect) refl is
  where
    by : (b : Bool) → differ t.dialect ports.dialect ≡ b
        → unless (where_it_is b BadPacket) (admission k (speaking t.dialect ports) w t.events) ≡ refused f
        → IsCause k ports w t f
    by true other is = let same : f ≡ BadPacket = cc in inl (other, same)
    by false alike is = inr (alike, is_cause k (speaking t.dialect ports) w t.events f is)

turn_refused : (k : ℕ) (ports : PortsState) (w : WorldState) (t : Turn) (f : Fault) → IsCause k ports w t f
    → turn_admission k ports w t ≡ refused f
turn_refused k ports w t f (inl c) =
    ap (λ b. unless (where_it_is b BadPacket) (admission k (speaking t.dialect ports) w t.events)) c.0
    ∙ ap refused (sym c.1)
turn_refused k ports w t f (inr c) =
    ap (λ b. unless (where_it_is b BadPacket) (admission k (speaking t.dialect ports) w t.events)) c.0
    ∙ cause_refuses k (speaking t.dialect ports) w t.events f c.1

pub for_its_cause : RefusedForItsCause
for_its_cause s k t ports f fresh there = (
  λ is. turn_cause k ports s.world t f
      (judged_refused k (turn_admission k ports s.world t) (nameless k s) f
      (sym (reply_is s k t ports fresh there) ∙ is)),
  λ c. reply_is s k t ports fresh there
      ∙ ap (λ d. (judged k d (nameless k s)).reply) (turn_refused k ports s.world t f c),
)
