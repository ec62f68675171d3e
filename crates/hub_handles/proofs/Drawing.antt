-- The laws, of each state that a run of allowed steps reaches.
use Rattle.std.proofs.Common.{◌≡◌, ℕ, ◌<◌, List, [], ◌∷◌, Bool, true, false, Option, Some, None, is_some}
use Rattle.std.proofs.Common.{refl, sym, ap, ◌∙◌, subst, arith}
use Rattle.std.specs.Prelude.{unwrap_or}
use Rattle.std.specs.Map.{keys_of, values_of}
use Rattle.std.proofs.lemmas.Bool.Decides.{nat_tests}
use Rattle.pv_value.specs.Plain.{Plain}
use Rattle.ac_table.specs.declared.batches.Event.{Event}
use Rattle.ac_table.specs.declared.batches.Event.TheVariants.{Assert, Retract, Message, Sync}
use Rattle.ac_table.specs.Tables.{Actor, find_actor, is_live}
use Rattle.ac_world.specs.Turns.{handle_for}
use Rattle.ac_world.specs.Worlds.{WorldState, Resident, Deliveries, resident_of, no_resident, held_by, is_system}
use Rattle.ac_world.specs.Worlds.{entry_of}
use Rattle.ac_world.specs.Lemmas.Entries.{each_found, values_all}
use Rattle.rl_ports.specs.Ports.{PortsState}
use Rattle.hub_machine.specs.Machine.{step}
use Rattle.hub_machine.specs.Replays.{run_from, replay}
use Rattle.hub_machine.specs.State.{State, opening}
use Rattle.hub_machine.specs.declared.steps.Step.{Step}
use Rattle.hub_valid.specs.Validity.{Lived, lived, IsValid, IsValidEvent, IsValidBatch, IsValidActor}
use Rattle.hub_valid.specs.Lemmas.Hubs.{stays_valid}
use Rattle.hub_valid.specs.Lemmas.Values.{all_flat}
use Rattle.hub_valid.specs.Lemmas.WorldTables.{actor_found}
use Rattle.hub_laws.specs.Laws.{AreAllowed}
use Rattle.hub_laws.specs.Standing.{events_of, value_alone, at_object}
use Rattle.hub_laws.proofs.Finding.{all_handles, found_below}
use Rattle.hub_laws.proofs.Kept.{made_in, IsHub, IsServed, IsServedBy}
use Rattle.hub_laws.proofs.Opening.{replay_hub}
use Rattle.hub_laws.proofs.Serving.{all_before}
use Rattle.hub_handles.specs.Drawn.{handle_by, handles_in, row_by, rows_named, WereDrawn, AreDrawn}
use Rattle.hub_handles.specs.Laws.{HandlesAreDrawn, RowsAreDrawnOnce, AssertionsAreNew, TurnsTakeAll}
use Rattle.hub_handles.proofs.Coming.{drawn_once}
use Rattle.hub_handles.proofs.Got.{assertion_is_new}
use Rattle.hub_handles.proofs.Naming.{NamesMade, NameMade, step_names}
use Rattle.hub_handles.proofs.Taken.{takes_all}

-- ---- each handle that a state has

-- a valid event tells of a handle that was drawn
event_drawn : (n : Lived) (next : ℕ) (e : Event) → IsValidEvent n next e → WereDrawn next (handle_by e)
event_drawn n next (Assert h entity v) valid = (valid.0, tt)
event_drawn n next (Retract h entity) valid = (valid.0, tt)
event_drawn n next (Message entity v) valid = tt
event_drawn n next (Sync entity peer) valid = tt

waiting_drawn : (n : Lived) (next : ℕ) (x : Actor) → IsValidActor n next x
    → WereDrawn next (handles_in (events_of x.inbox))
waiting_drawn n next x valid =
    all_flat (IsValidEvent n next) (λ h. h < next) handle_by (event_drawn n next) (events_of x.inbox)
    (all_flat (IsValidBatch n next) (IsValidEvent n next) (λ b. b.events) (λ b each. each) x.inbox valid)

module _ (s : State) (hub : IsHub [] s) where
  abbrev w : WorldState
  w = s.world

  -- nothing is kept of who isn't live
  nothing_kept : (a : ℕ) → is_live a w.table ≡ false → resident_of a w ≡ no_resident
  nothing_kept a dead = ap (λ o. unwrap_or o no_resident) (hub.sound.unkept a dead)

  got_drawn : (a : ℕ) → a < 17 → WereDrawn w.table.next (keys_of (resident_of a w).got)
  got_drawn a low = by (find_actor a w.table.actors) refl
    where
      by : (o : Option Actor) → find_actor a w.table.actors ≡ o
          → WereDrawn w.table.next (keys_of (resident_of a w).got)
      by None none =
          subst (λ (r : Resident). WereDrawn w.table.next (keys_of r.got)) (sym (nothing_kept a (ap is_some none))) tt
      by (Some x) found =
          let system : is_system a ≡ true = grind (arith, nat_tests, low) in
          let served : IsServedBy value_alone [] w.table.rows w.table.next a (resident_of a w).got x.inbox =
          subst (IsServed [] a x.inbox w) system (hub.sound.served a x found) in
          all_before (λ h. h < w.table.next) (keys_of (resident_of a w).got) (made_in (events_of x.inbox)) served.log.1

  kept_drawn : (a : ℕ) (key : Plain) (h : ℕ) → a < 17 → handle_for key (resident_of a w).handles ≡ Some h
      → h < w.table.next
  kept_drawn a key h low is = by (is_live a w.table) refl
    where
      by : (c : Bool) → is_live a w.table ≡ c → h < w.table.next
      by true live =
          let row = (hub.sound.met a low live).rows_stand key h is in
          found_below h w.table row.row hub.sound.table row.stands
      by false dead =
          absurd (let none : None ≡ Some h =
          ap (λ (r : Resident). handle_for key r.handles) (sym (nothing_kept a dead)) ∙ is in cc)

  held_drawn : (a : ℕ) → WereDrawn w.table.next (keys_of (held_by a w))
  held_drawn a = by (find_actor a w.table.actors) refl
    where
      nothing : held_by a w ≡ [] → WereDrawn w.table.next (keys_of (held_by a w))
      nothing none = subst (λ (got : Deliveries). WereDrawn w.table.next (keys_of got)) (sym none) tt

      kind : (x : Actor) (c : Bool) → is_system a ≡ c → find_actor a w.table.actors ≡ Some x
          → WereDrawn w.table.next (keys_of (held_by a w))
      kind x true system found =
          let low : a < 17 = grind (arith, nat_tests, system) in
          nothing (ap (λ o. unwrap_or o []) (hub.sound.system_unheld a low))
      kind x false far found =
          let served : IsServedBy at_object [] w.table.rows w.table.next a (held_by a w) x.inbox =
          subst (IsServed [] a x.inbox w) far (hub.sound.served a x found) in
          all_before (λ h. h < w.table.next) (keys_of (held_by a w)) (made_in (events_of x.inbox)) served.log.1

      by : (o : Option Actor) → find_actor a w.table.actors ≡ o → WereDrawn w.table.next (keys_of (held_by a w))
      by None none = nothing (ap (λ o. unwrap_or o []) (hub.sound.unheld a (ap is_some none)))
      by (Some x) found = kind x (is_system a) refl found

  named_drawn : NameMade s → (k : ℕ) (ports : PortsState) → entry_of k s.connections ≡ Some ports
      → WereDrawn w.table.next (rows_named ports)
  named_drawn all k ports is =
      let made = each_found (NamesMade w.table.next) k ports s.connections all is in
      all_flat (λ i. WereDrawn w.table.next (row_by i)) (λ h. h < w.table.next) row_by (λ i drawn. drawn)
      (values_of ports.handles) (values_all (λ i. WereDrawn w.table.next (row_by i)) ports.handles made)

  all_drawn : IsValid s → NameMade s → AreDrawn s
  all_drawn valid made = record {
    rows = all_handles (λ h. h < w.table.next) w.table.rows hub.sound.table.rows_below_next;
    waiting = λ a x found.
        waiting_drawn (lived w) w.table.next x
        (actor_found (IsValidActor (lived w) w.table.next) a w.table.actors x valid.world.inboxes found);
    got = got_drawn;
    kept = kept_drawn;
    held = held_drawn;
    named = named_drawn made;
  }

-- ---- runs

pub record IsKept (s : State) : Type 0 where
  pub valid : IsValid s
  pub named : NameMade s

run_keeps : (s : State) (steps : List Step) → AreAllowed s steps → IsKept s → IsKept (run_from s steps)
run_keeps s [] may k = k
run_keeps s (e ∷ steps) may k =
    run_keeps (step s e).state steps may.1
    (record { valid = stays_valid.1 s e k.valid may.0; named = step_names s e k.named })

-- ---- the laws

pub are_drawn : HandlesAreDrawn
are_drawn ds steps may =
    let k : IsKept (replay ds steps) =
    run_keeps (opening ds) steps may (record { valid = stays_valid.0 ds; named = tt }) in
    all_drawn (replay ds steps) (replay_hub ds steps may) k.valid k.named

pub rows_once : RowsAreDrawnOnce
rows_once ds steps may =
    let table = (replay_hub ds steps may).sound.table in
    drawn_once (replay ds steps) (record { ascend = table.rows_ascend; below = table.rows_below_next })

pub are_new : AssertionsAreNew
are_new ds steps may a b system first before later h entity v parts =
    assertion_is_new a b (replay ds steps).world (replay_hub ds steps may).sound system first before later h entity v
    parts

pub take_all : TurnsTakeAll
take_all ds steps may a b fresh first =
    takes_all a b (replay ds steps) (replay_hub ds steps may).sound first fresh
