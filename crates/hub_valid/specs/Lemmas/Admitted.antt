-- What the events of an admitted packet do names objects.
use Rattle.std.proofs.Common.{◌≡◌, ℕ, zero, suc, pos, ◌+◌, ◌^◌, ◌<◌, ◌≤◌, Bool, true, false, List, [], ◌∷◌, length}
use Rattle.std.proofs.Common.{Option, Some, None, cond, refl, sym, ap, ◌∙◌, subst, arith}
use Rattle.std.proofs.lemmas.Bool.Decides.{nat_tests}
use Rattle.std.specs.Prelude.{IsSomeAnd, is_some, option_map, option_and_then, unwrap_or, nat_lt, ◌||◌}
use Rattle.std.specs.Option.{option_or}
use Rattle.std.specs.List.{AllByRecursion}
use Rattle.pv_value.specs.Plain.{Plain, integer, sequence, embedded, no_more, then_more}
use Rattle.pv_value.specs.Weight.{weight}
use Rattle.pv_words.specs.Words.{number_in}
use Rattle.sr_caveat.specs.Limits.{reference_caveats, reference_weight}
use Rattle.sr_caveat.specs.declared.caps.Cap.{Cap}
use Rattle.sr_caveat.specs.Caps.{cap_of}
use Rattle.pv_words.specs.Lemmas.Found.{If, if_cond}
use Rattle.ac_world.specs.Worlds.{WorldState}
use Rattle.rl_packet.specs.declared.packets.Event.{Event}
use Rattle.rl_packet.specs.declared.packets.Event.TheVariants.{Assert, Retract, Message, Sync}
use Rattle.rl_packet.specs.declared.packets.TurnEvent.{TurnEvent}
use Rattle.rl_packet.specs.Wired.{is_wired, is_peer, IsEvent, IsTurnEvent}
use Rattle.rl_ports.specs.declared.ports.Inbound.{Inbound}
use Rattle.rl_ports.specs.declared.ports.Inbound.TheVariants.{Row, Refused}
use Rattle.rl_ports.specs.Ports.{PortsState, ExportTable, Standing, current, released, never, standing_of, standing}
use Rattle.rl_ports.specs.Ports.{inbound_of, export_of, told}
use Rattle.rl_wire.specs.Crossing.{held_in, wire_where, wire_of, actor_at, caveats_in, with_caveats, reference_in}
use Rattle.rl_wire.specs.Crossing.{crossed_in, export_fault_in, wire_fault, first_fault, reference_fault}
use Rattle.rl_wire.specs.Crossing.{size_fault_of, is_released, names_released, any_stale, is_stale, whole_in}
use Rattle.rl_wire.specs.declared.faults.WireFault.{WireFault}
use Rattle.rl_wire.specs.declared.faults.WireFault.TheVariants.{UnknownOid, Limit, NoMemory}
use Rattle.rl_wire.specs.declared.wires.Wire.{Wire}
use Rattle.rl_wire.specs.declared.wires.Wire.TheVariants.{Own, ExportedAs}
use Rattle.rl_wire.specs.Lemmas.Attenuating.{with_caveats_is_cap}
use Rattle.hub_machine.specs.Limits.{most_events}
use Rattle.hub_machine.specs.declared.faults.Fault.{Fault}
use Rattle.hub_machine.specs.Faults.{over}
use Rattle.hub_machine.specs.Admission.{Admitting, admitted, before_all, value_cause, kept, inside, fault_of}
use Rattle.hub_machine.specs.Admission.{let_through, through, peer_kept, event_cause, Aim, object, stale, unknown}
use Rattle.hub_machine.specs.Admission.{aim_of, aimed, aim_at, cause_at, cause_of, after_assertion, after_retraction}
use Rattle.hub_machine.specs.Admission.{after_message, after_sync, after_event, after_stale, after_at, after}
use Rattle.hub_machine.specs.Admission.{unless, all_admitted, admission}
use Rattle.hub_valid.specs.Validity.{Lived, lived, IsObject, IsObjectValue, HoldsObjects, IsValidAct, IsValidEntry}
use Rattle.hub_valid.specs.Promises.{ActsAreValid}
use Rattle.hub_valid.specs.Lemmas.Values.{all_append, all_numbered, cap_is_object}
use Rattle.hub_valid.specs.Lemmas.Passed.{through_holds}
use Rattle.hub_valid.specs.Lemmas.Crossed.{held_by_crossed, IsWireReference, held_by_wired}

-- ---- causes

parts_none : {X : Type 0} (o q : Option X) → option_or o q ≡ None → (o ≡ None) × (q ≡ None)
parts_none None q is = (refl, is)
parts_none (Some x) q is = absurd cc

parts_false : (a b : Bool) → (a || b) ≡ false → (a ≡ false) × (b ≡ false)
parts_false true b is = absurd cc
parts_false false b is = (refl, is)

-- a wire reference that names an export that is in force where it names one
abbrev IsKnown : ExportTable → Plain → Type 0
IsKnown exports x =
    IsWireReference x × (wire_fault exports x (wire_of x) ≡ None) × (names_released exports (wire_of x) ≡ false)

all_known : (exports : ExportTable) (xs : List Plain) → AllByRecursion IsWireReference xs
    → first_fault exports xs ≡ None → any_stale exports xs ≡ false → AllByRecursion (IsKnown exports) xs
all_known exports [] wires known fresh = tt
all_known exports (x ∷ xs) wires known fresh =
    let k = parts_none (wire_fault exports x (wire_of x)) (first_fault exports xs) known in
    let f = parts_false (names_released exports (wire_of x)) (any_stale exports xs) fresh in
    ((wires.0, k.0, f.0), all_known exports xs wires.1 k.1 f.1)

-- a fault of a reference is told
abbrev IsTold : WireFault → Type 0
IsTold f = is_some (fault_of f) ≡ true

reference_told : (r : Plain) → If (reference_fault r) IsTold
reference_told r =
    if_cond IsTold (nat_lt reference_caveats (length (caveats_in r))) (Some (Limit 8 (length (caveats_in r)))) _ refl
    (if_cond IsTold (nat_lt reference_weight (told (weight r))) (Some (Limit 9 (told (weight r)))) None refl tt)

wire_told : (exports : ExportTable) (x : Plain) (o : Option Wire) → If (wire_fault exports x o) IsTold
wire_told exports x None = tt
wire_told exports x (Some (Own e)) = tt
wire_told exports x (Some (ExportedAs n)) = by (standing n exports)
  where
    by : (o : Standing) → If (export_fault_in n (caveats_in x) o) IsTold
    by (current r) = reference_told (with_caveats (caveats_in x) r)
    by released = tt
    by never = refl

first_told : (exports : ExportTable) (xs : List Plain) → If (first_fault exports xs) IsTold
first_told exports [] = tt
first_told exports (x ∷ xs) =
    by (wire_fault exports x (wire_of x)) (wire_told exports x (wire_of x)) (first_told exports xs)
  where
    by : (o : Option WireFault) → If o IsTold → If (first_fault exports xs) IsTold
        → If (option_or o (first_fault exports xs)) IsTold
    by None h rest = rest
    by (Some f) h rest = h

none_told : (o q : Option WireFault) → If o IsTold → option_and_then fault_of (option_or o q) ≡ None → o ≡ None
none_told None q h is = refl
none_told (Some (UnknownOid n)) q h is = absurd cc
none_told (Some (Limit which n)) q h is = absurd cc
none_told (Some NoMemory) q h is = absurd cc

none_unknown : (k : ℕ) (v : Plain) (x : Admitting) → value_cause k v x ≡ None
    → first_fault x.ports.exports (held_in v) ≡ None
none_unknown k v x is =
    none_told (first_fault x.ports.exports (held_in v)) (size_fault_of (kept k v x))
    (first_told x.ports.exports (held_in v)) is

number_low : (m : Plain) (e : ℕ) → number_in m ≡ Some e → e < 2 ^ 63
number_low (integer (pos n)) e is = by (nat_lt n (2 ^ 63)) refl is
  where
    by : (b : Bool) → nat_lt n (2 ^ 63) ≡ b → cond {A = Option ℕ} b (Some n) None ≡ Some e → e < 2 ^ 63
    by true low is = let one : n ≡ e = cc in grind (arith, nat_tests, low, one)
    by false high is = absurd cc
number_low m e is = absurd cc

-- a reference to an object with more caveats is one to it
more_caveats : (n : Lived) (ws : List Plain) (r : Plain) → IsObjectValue n r → IsObjectValue n (with_caveats ws r)
more_caveats n ws r h = by (cap_of r) refl h
  where
    by : (o : Option Cap) → cap_of r ≡ o → IsSomeAnd o (IsObject n) → IsObjectValue n (with_caveats ws r)
    by None is h = absurd h
    by (Some c) is h = subst (λ o. IsSomeAnd o (IsObject n)) (sym (with_caveats_is_cap r c ws is)) h

-- ---- values that come in; n tells which actors were ever live

module _ (n : Lived) (few : 16 + n.opened < 2 ^ 32) where
  module _ (k : ℕ) (own : actor_at k ≤ 16 + n.opened) (far : 17 ≤ actor_at k) (exports : ExportTable)
      (named : AllByRecursion (λ e. IsObjectValue n e.1) exports.in_force)
    where
      -- an object of the connection's own
      own_known : (x : Plain) (o : Option ℕ) → ((e : ℕ) → o ≡ Some e → e < 2 ^ 63) → is_some o ≡ true
          → IsObjectValue n (reference_in exports (actor_at k) x (wire_where Own o))
      own_known x None low is = absurd cc
      own_known x (Some e) low is =
          cap_is_object n (record { actor = actor_at k; entity = e; caveats = [] })
          (omega (arith, own, few), low e refl, tt)
          (own, low e refl, λ near. absurd (omega (arith, near, far)))

      export_known : (x : Plain) (o : Option ℕ) → is_some o ≡ true
          → wire_fault exports x (wire_where ExportedAs o) ≡ None
          → names_released exports (wire_where ExportedAs o) ≡ false
          → IsObjectValue n (reference_in exports (actor_at k) x (wire_where ExportedAs o))
      export_known x None is none fresh = absurd cc
      export_known x (Some i) is none fresh =
          by (export_of i exports) (nat_lt i exports.next) (all_numbered (IsObjectValue n) i exports.in_force named) none
          fresh
        where
          by : (o : Option Plain) (b : Bool) → If o (IsObjectValue n)
              → export_fault_in i (caveats_in x) (standing_of o b) ≡ None → is_released (standing_of o b) ≡ false
              → IsObjectValue n (unwrap_or (option_map (with_caveats (caveats_in x)) o) x)
          by (Some r) b named none fresh = more_caveats n (caveats_in x) r named
          by None true named none fresh = absurd cc
          by None false named none fresh = absurd cc

      known_object : (x : Plain) → IsKnown exports x → IsObjectValue n (reference_in exports (actor_at k) x (wire_of x))
      known_object (sequence (then_more (integer (pos zero)) (then_more m no_more))) known =
          let x : Plain = sequence (then_more (integer (pos zero)) (then_more m no_more)) in
          own_known x (number_in m) (number_low m) known.0
      known_object (sequence (then_more (integer (pos (suc zero))) (then_more m cs))) known =
          export_known (sequence (then_more (integer (pos (suc zero))) (then_more m cs))) (number_in m) known.0
          known.1 known.2
      known_object x known = let wire = known.0 in absurd cc

      value_comes_in : (v : Plain) → is_wired v ≡ true → first_fault exports (held_in v) ≡ None
          → If (whole_in exports k v) (HoldsObjects n)
      value_comes_in v wired known = by (is_stale exports v) refl
        where
          by : (b : Bool) → is_stale exports v ≡ b
              → If (cond {A = Option Plain} b None (Some (crossed_in exports k v))) (HoldsObjects n)
          by true is = tt
          by false fresh =
              held_by_crossed (IsKnown exports) (IsObjectValue n) (λ x. reference_in exports (actor_at k) x (wire_of x))
              known_object v (all_known exports (held_in v) (held_by_wired v wired) known fresh)

      fresh_peer : (peer : Plain) → is_peer peer ≡ true → first_fault exports (held_in peer) ≡ None
          → is_stale exports peer ≡ false → IsObjectValue n (inside (crossed_in exports k peer))
      fresh_peer (embedded y) wire known fresh =
          known_object y (
            wire,
            (parts_none (wire_fault exports y (wire_of y)) None known).0,
            (parts_false (names_released exports (wire_of y)) false fresh).0,
          )
      fresh_peer peer wire known fresh = absurd cc

      peer_comes_in : (peer : Plain) → is_peer peer ≡ true → first_fault exports (held_in peer) ≡ None
          → If (option_map inside (whole_in exports k peer)) (IsObjectValue n)
      peer_comes_in peer wire known = by (is_stale exports peer) refl
        where
          by : (b : Bool) → is_stale exports peer ≡ b
              → If (option_map inside (cond {A = Option Plain} b None (Some (crossed_in exports k peer))))
              (IsObjectValue n)
          by true is = tt
          by false fresh = fresh_peer peer wire known fresh

  -- ---- events

  -- the exports are references to objects, and what was done so far names objects
  abbrev IsSound : Admitting → Type 0
  IsSound x = AllByRecursion (λ e. IsObjectValue n e.1) x.ports.exports.in_force × AllByRecursion (IsValidAct n) x.acts

  module _ (k : ℕ) (own : actor_at k ≤ 16 + n.opened) (far : 17 ≤ actor_at k) (w : WorldState) where
    retracted : (h : ℕ) (o : Option Inbound) (x : Admitting) → IsSound x → IsSound (after_retraction h o w x)
    retracted h None x s = s
    retracted h (Some Refused) x s = s
    retracted h (Some (Row m)) x s = (s.0, all_append (IsValidAct n) x.acts _ s.1 (tt, tt))

    asserted : (to : Cap) (o : Option Plain) (h : ℕ) (x : Admitting) → IsObject n to → If o (HoldsObjects n) → IsSound x
        → IsSound (after_assertion w to o h x)
    asserted to None h x named value s = s
    asserted to (Some v) h x named value s =
        (s.0, all_append (IsValidAct n) x.acts _ s.1 ((named, value), tt))

    messaged : (to : Cap) (o : Option Plain) (x : Admitting) → IsObject n to → If o (HoldsObjects n) → IsSound x
        → IsSound (after_message w to o x)
    messaged to None x named value s = s
    messaged to (Some v) x named value s =
        (s.0, all_append (IsValidAct n) x.acts _ s.1 ((named, value), tt))

    synced : (to : Cap) (o : Option Plain) (x : Admitting) → IsObject n to → If o (IsObjectValue n) → IsSound x
        → IsSound (after_sync w to o x)
    synced to None x named peer s = s
    synced to (Some v) x named peer s =
        (s.0, all_append (IsValidAct n) x.acts _ s.1 ((named, peer), tt))

    -- what the caveats of reference r let pass
    passing : (r : Plain) (to : Cap) (o : Option Plain) → cap_of r ≡ Some to → If o (HoldsObjects n)
        → If (option_and_then (let_through w to) o) (HoldsObjects n)
    passing r to None cap value = tt
    passing r to (Some v) cap value = through_holds w.schema n r v to cap value

    -- at the object that reference r names
    event_sound : (r : Plain) (to : Cap) (e : Event) (x : Admitting) → cap_of r ≡ Some to → IsObject n to → IsSound x
        → IsEvent e → event_cause k w to e x ≡ None → IsSound (after_event k w to e x)
    event_sound r to (Assert v h) x cap o s wired is =
        let a = parts_none _ _ is in
        let b = parts_none _ _ a.0 in
        let value = value_comes_in k own far x.ports.exports s.0 v wired.0 (none_unknown k v x b.0) in
        asserted to (through k w to v x) h x o (passing r to (kept k v x) cap value) s
    event_sound r to (Retract h) x cap o s wired is = retracted h (inbound_of h x.ports) x s
    event_sound r to (Message v) x cap o s wired is =
        let a = parts_none _ _ is in
        let value = value_comes_in k own far x.ports.exports s.0 v wired (none_unknown k v x a.0) in
        messaged to (through k w to v x) x o (passing r to (kept k v x) cap value) s
    event_sound r to (Sync peer) x cap o s wired is =
        let a = parts_none _ _ is in
        let value = peer_comes_in k own far x.ports.exports s.0 peer wired (none_unknown k peer x a.0) in
        synced to (peer_kept k peer x) x o value s

    -- at a released export
    stale_sound : (e : Event) (x : Admitting) → IsSound x → IsSound (after_stale w e x)
    stale_sound (Assert v h) x s = s
    stale_sound (Retract h) x s = retracted h (inbound_of h x.ports) x s
    stale_sound (Message v) x s = s
    stale_sound (Sync peer) x s = s

    -- where r is the export
    through_sound : (r : Plain) (o : Option Cap) (e : TurnEvent) (x : Admitting) → cap_of r ≡ o
        → IsSomeAnd o (IsObject n) → IsSound x → IsEvent e.event → cause_at k w (aim_of o) e x ≡ None
        → IsSound (after_at k w (aim_of o) e.event x)
    through_sound r None e x cap named s wired is = absurd named
    through_sound r (Some to) e x cap named s wired is = event_sound r to e.event x cap named s wired is

    at_sound : (q : Option Plain) (b : Bool) (e : TurnEvent) (x : Admitting) → If q (IsObjectValue n) → IsSound x
        → IsEvent e.event → cause_at k w (aimed (standing_of q b)) e x ≡ None
        → IsSound (after_at k w (aimed (standing_of q b)) e.event x)
    at_sound (Some r) b e x named s wired is = through_sound r (cap_of r) e x refl named s wired is
    at_sound None true e x named s wired is = stale_sound e.event x s
    at_sound None false e x named s wired is = absurd cc

    all_sound : (es : List TurnEvent) (x y : Admitting) → IsSound x → AllByRecursion IsTurnEvent es
        → all_admitted k w es x ≡ admitted y → IsSound y
    all_sound [] x y s wired is = let same : x ≡ y = cc in subst IsSound same s
    all_sound (e ∷ es) x y s wired is =
        by (cause_of k w e x) refl is
        (λ none. all_sound es (after k w e x) y
        (at_sound (export_of e.oid x.ports.exports) (nat_lt e.oid x.ports.exports.next) e x
        (all_numbered (IsObjectValue n) e.oid x.ports.exports.in_force s.0) s wired.0.1 none)
        wired.1)
      where
        by : (o : Option Fault) → cause_of k w e x ≡ o → unless o (all_admitted k w es (after k w e x)) ≡ admitted y
            → (cause_of k w e x ≡ None → all_admitted k w es (after k w e x) ≡ admitted y → IsSound y) → IsSound y
        by None cause is later = later cause is
        by (Some f) cause is later = absurd cc

-- ---- packets

-- the acts name objects, where the numbers of actors fit a reference
pub acts_are_valid_below :
    (k : ℕ) (ports : PortsState) (es : List TurnEvent) (x : Admitting) (w : WorldState) → 16 + w.opened < 2 ^ 32
    → IsValidEntry (lived w) (k, ports) → AllByRecursion IsTurnEvent es → admission k ports w es ≡ admitted x
    → AllByRecursion (IsValidAct (lived w)) x.acts
acts_are_valid_below k ports es x w few entry wired is = by (over most_events 3 (length es)) is
  where
    own : actor_at k ≤ 16 + w.opened
    own = omega (arith, entry.0.1)

    far : 17 ≤ actor_at k
    far = omega (arith, entry.0.0)

    by : (o : Option Fault) → unless o (all_admitted k w es (before_all k ports w)) ≡ admitted x
        → AllByRecursion (IsValidAct (lived w)) x.acts
    by None is = (all_sound (lived w) few k own far w es (before_all k ports w) x (entry.1, tt) wired is).1
    by (Some f) is = absurd cc

-- ---- what the connection names

-- what ports say of references: all but the inbound handles and the dialect
abbrev pub names_of : PortsState → PortsState
names_of p = record p { handles = []; dialect = None }

names_retracted : (h : ℕ) (o : Option Inbound) (w : WorldState) (x : Admitting)
    → names_of (after_retraction h o w x).ports ≡ names_of x.ports
names_retracted h None w x = refl
names_retracted h (Some Refused) w x = refl
names_retracted h (Some (Row m)) w x = refl

names_asserted : (to : Cap) (o : Option Plain) (h : ℕ) (w : WorldState) (x : Admitting)
    → names_of (after_assertion w to o h x).ports ≡ names_of x.ports
names_asserted to None h w x = refl
names_asserted to (Some v) h w x = refl

names_messaged : (to : Cap) (o : Option Plain) (w : WorldState) (x : Admitting)
    → names_of (after_message w to o x).ports ≡ names_of x.ports
names_messaged to None w x = refl
names_messaged to (Some v) w x = refl

names_synced : (to : Cap) (o : Option Plain) (w : WorldState) (x : Admitting)
    → names_of (after_sync w to o x).ports ≡ names_of x.ports
names_synced to None w x = refl
names_synced to (Some v) w x = refl

names_at : (k : ℕ) (w : WorldState) (o : Aim) (e : Event) (x : Admitting)
    → names_of (after_at k w o e x).ports ≡ names_of x.ports
names_at k w (object to) (Assert v h) x = names_asserted to (through k w to v x) h w x
names_at k w (object to) (Retract h) x = names_retracted h (inbound_of h x.ports) w x
names_at k w (object to) (Message v) x = names_messaged to (through k w to v x) w x
names_at k w (object to) (Sync peer) x = names_synced to (peer_kept k peer x) w x
names_at k w stale (Assert v h) x = refl
names_at k w stale (Retract h) x = names_retracted h (inbound_of h x.ports) w x
names_at k w stale (Message v) x = refl
names_at k w stale (Sync peer) x = refl
names_at k w unknown e x = refl

pub exports_after : (k : ℕ) (w : WorldState) (o : Aim) (e : Event) (x : Admitting)
    → (after_at k w o e x).ports.exports ≡ x.ports.exports
exports_after k w o e x = ap (λ (p : PortsState). p.exports) (names_at k w o e x)

names_after_all : (k : ℕ) (w : WorldState) (es : List TurnEvent) (x y : Admitting)
    → all_admitted k w es x ≡ admitted y → names_of y.ports ≡ names_of x.ports
names_after_all k w [] x y is = let same : x ≡ y = cc in rw same refl
names_after_all k w (e ∷ es) x y is = by (cause_of k w e x) is (names_after_all k w es (after k w e x) y)
  where
    by : (o : Option Fault) → unless o (all_admitted k w es (after k w e x)) ≡ admitted y
        → (all_admitted k w es (after k w e x) ≡ admitted y → names_of y.ports ≡ names_of (after k w e x).ports)
        → names_of y.ports ≡ names_of x.ports
    by None is later = later is ∙ names_at k w (aim_at e.oid x.ports) e.event x
    by (Some f) is later = absurd cc

-- a packet exports nothing, pins nothing and notes nothing
pub names_stay : (k : ℕ) (ports : PortsState) (w : WorldState) (es : List TurnEvent) (x : Admitting)
    → admission k ports w es ≡ admitted x → names_of x.ports ≡ names_of ports
names_stay k ports w es x is = by (over most_events 3 (length es)) is
  where
    by : (o : Option Fault) → unless o (all_admitted k w es (before_all k ports w)) ≡ admitted x
        → names_of x.ports ≡ names_of ports
    by None is = names_after_all k w es (before_all k ports w) x is
    by (Some f) is = absurd cc

pub exports_stay : (k : ℕ) (ports : PortsState) (w : WorldState) (es : List TurnEvent) (x : Admitting)
    → admission k ports w es ≡ admitted x → x.ports.exports ≡ ports.exports
exports_stay k ports w es x is = ap (λ (p : PortsState). p.exports) (names_stay k ports w es x is)

pub acts_are_valid : ActsAreValid
acts_are_valid k ports es x s valid entry wired is =
    acts_are_valid_below k ports es x s.world (omega (arith, valid.few)) entry wired is
