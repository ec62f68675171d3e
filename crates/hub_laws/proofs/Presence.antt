-- Who is always live, of whom names, rows and faults are kept; and the next handle.
use Rattle.std.proofs.Common.{◌≡◌, ℕ, ◌+◌, ◌≤◌, ◌==◌, List, Bool, true, false, cond, Option, Some, None, refl, ap}
use Rattle.std.proofs.Common.{sym, ◌∙◌, subst, arith, is_some}
use Rattle.std.proofs.lemmas.Bool.Decides.{nat_tests}
use Rattle.std.specs.List.{AllByRecursion}
use Rattle.ps_schema.specs.declared.Definition.{Definition}
use Rattle.ac_table.specs.Tables.{is_live}
use Rattle.ac_world.specs.Turns.{turn}
use Rattle.ac_world.specs.declared.watched.Watched.{Watched}
use Rattle.ac_world.specs.Worlds.{WorldState, actor_of, entry_of, without_entry, ended_of, sent, watching}
use Rattle.ac_world.specs.Lemmas.Entries.{each_with, each_without, each_found}
use Rattle.rl_ports.specs.Ports.{PortsState, ports_to}
use Rattle.hub_machine.specs.declared.faults.Fault.{Fault}
use Rattle.hub_machine.specs.State.{State, opening, is_there}
use Rattle.hub_machine.specs.Admission.{Admitting}
use Rattle.hub_machine.specs.Endings.{nameless, closed, failed, dismissed}
use Rattle.hub_machine.specs.Machine.{is_unwatchable, opened, accepted, names_after, actor_reference}
use Rattle.hub_machine.specs.Replays.{replay}
use Rattle.hub_machine.specs.declared.steps.Step.{Step}
use Rattle.hub_valid.specs.Validity.{HasCome}
use Rattle.hub_valid.specs.Lemmas.AnyStep.{Keeps, run_keeps}
use Rattle.hub_valid.specs.Lemmas.Lasting.{Lasts, lasts_sent, lasts_turn, later_watching}
use Rattle.hub_valid.specs.Lemmas.Lives.{live_placed, live_ended, next_ended, opened_ended}
use Rattle.hub_valid.specs.Lemmas.Values.{all_weaker}
use Rattle.hub_laws.specs.Presence.{HasEnded}
use Rattle.hub_laws.specs.Laws.{Presence, Handles}
use Rattle.hub_laws.proofs.Beginning.{may_begin}
use Rattle.hub_laws.proofs.Opening.{replay_hub}

-- ---- the next handle

module _ (n : ℕ) where
  abbrev IsFrom : State → Type 0
  IsFrom s = n ≤ s.world.table.next

  ended_from : (a : ℕ) (w : WorldState) → n ≤ w.table.next → n ≤ (ended_of a w).table.next
  ended_from a w l = subst (λ m. n ≤ m) (sym (next_ended a w)) l

  keeps_from : Keeps IsFrom
  keeps_from = record {
    binds = λ b s is l. l;
    watches = λ x s is l. let more = later_watching x s.world in omega (arith, l, more);
    opens = λ space s l. l;
    fails = λ k f s there l. ended_from (actor_of k) s.world l;
    dismisses = λ a s high low l. ended_from a s.world l;
    closes = λ k s there l. ended_from (actor_of k) s.world l;
    accepts = λ k x s there l.
        let lasts : Lasts s.world (sent (actor_of k) x.acts s.world) = lasts_sent (actor_of k) x.acts s.world in
        omega (arith, l, lasts.later);
    exports = λ k b p s there l. l;
    turns = λ a s l.
        let lasts : Lasts s.world (turn a s.world).world = lasts_turn a s.world in omega (arith, l, lasts.later);
    tells = λ k s l. l;
    stops = λ s l. l;
  }

pub handles_rise : Handles
handles_rise s steps = run_keeps (IsFrom s.world.table.next) (keeps_from s.world.table.next) s steps (omega arith)

-- ---- who has come, and who has ended

pub record IsInPlace (s : State) : Type 0 where
  pub named : AllByRecursion (λ e. HasCome s.world.opened e.0) s.connections
  pub faults : AllByRecursion (λ e. HasEnded e.0 s) s.faults

-- a connection that is there has come
come_there : (k : ℕ) (s : State) → IsInPlace s → is_there k s ≡ true → HasCome s.world.opened k
come_there k s p there = by (is_live (actor_of k) s.world.table) (entry_of k s.connections) refl there
  where
    by : (b : Bool) (o : Option PortsState) → entry_of k s.connections ≡ o → is_some (cond b o None) ≡ true
        → HasCome s.world.opened k
    by true (Some ports) found is = each_found (λ e. HasCome s.world.opened e.0) k ports s.connections p.named found
    by true None found is = absurd cc
    by false o found is = absurd cc

still_dead : (b old : Bool) → old ≡ false → cond b false old ≡ false
still_dead true old dead = refl
still_dead false old dead = dead

pub dead_after : (b a : ℕ) (w : WorldState) → is_live b w.table ≡ false → is_live b (ended_of a w).table ≡ false
dead_after b a w dead = live_ended b a w ∙ still_dead (b == a) (is_live b w.table) dead

pub dead_itself : (a : ℕ) (w : WorldState) → is_live a (ended_of a w).table ≡ false
dead_itself a w =
    let same : (a == a) ≡ true = grind (arith, nat_tests) in
    live_ended a a w ∙ ap (λ b. cond b false (is_live a w.table)) same

-- who has ended has in a later state
module _ (s t : State) (opened_is : t.world.opened ≡ s.world.opened)
    (dead : (b : ℕ) → is_live b s.world.table ≡ false → is_live b t.world.table ≡ false)
  where
    still_ended : (k : ℕ) → HasEnded k s → HasEnded k t
    still_ended k h = (subst (λ n. HasCome n k) (sym opened_is) h.0, dead (actor_of k) h.1)

    faults_still : (fs : List (ℕ × Fault)) → AllByRecursion (λ e. HasEnded e.0 s) fs
        → AllByRecursion (λ e. HasEnded e.0 t) fs
    faults_still fs all = all_weaker (λ e. HasEnded e.0 s) (λ e. HasEnded e.0 t) (λ e h. still_ended e.0 h) fs all

    names_still : (es : List (ℕ × PortsState)) → AllByRecursion (λ e. HasCome s.world.opened e.0) es
        → AllByRecursion (λ e. HasCome t.world.opened e.0) es
    names_still es all = subst (λ n. AllByRecursion (λ e. HasCome n e.0) es) (sym opened_is) all

place_opened : (space : ℕ) (s : State) → IsInPlace s → IsInPlace (opened space s)
place_opened space s p = record {
  named = each_with (λ e. HasCome (s.world.opened + 1) e.0) (s.world.opened + 1) (ports_to (actor_reference space))
      s.connections (omega arith, omega arith)
      (all_weaker (λ e. HasCome s.world.opened e.0) (λ e. HasCome (s.world.opened + 1) e.0)
      (λ e h. (h.0, omega (arith, h.1))) s.connections p.named);
  faults = all_weaker (λ e. HasEnded e.0 s) (λ e. HasEnded e.0 (opened space s)) (λ e h. later e.0 h) s.faults
      p.faults;
}
  where
    later : (k : ℕ) → HasEnded k s → HasEnded k (opened space s)
    later k h =
        let low : k ≤ s.world.opened = h.0.1 in (
          (h.0.0, omega (arith, low)),
          live_placed (actor_of k) _ s.world.table.actors (λ same. omega (arith, low, same)) ∙ h.1,
        )

-- no connection has come where a watcher begins
place_watching : (x : Watched) (s : State) → is_unwatchable x s ≡ false → IsInPlace s
    → IsInPlace (record s { world = watching x s.world })
place_watching x s is p = record {
  named = p.named;
  faults = all_weaker (λ e. HasEnded e.0 s) (λ e. HasEnded e.0 (record s { world = watching x s.world }))
      (λ e h. none e.0 h.0) s.faults p.faults;
}
  where
    none : (k : ℕ) → HasCome s.world.opened k → HasEnded k (record s { world = watching x s.world })
    none k come =
        let first : s.world.opened ≡ 0 = (may_begin x s is).first in
        absurd (omega (arith, first, come.0, come.1))

place_dismissed : (a : ℕ) (s : State) → IsInPlace s → IsInPlace (dismissed a s)
place_dismissed a s p =
    let dead = λ (b : ℕ) (is : is_live b s.world.table ≡ false). dead_after b a s.world is in
    let same : (dismissed a s).world.opened ≡ s.world.opened = opened_ended a s.world in
    record {
      named = names_still s (dismissed a s) same dead s.connections p.named;
      faults = faults_still s (dismissed a s) same dead s.faults p.faults;
    }

place_failed : (k : ℕ) (f : Fault) (s : State) → is_there k s ≡ true → IsInPlace s → IsInPlace (failed k f s)
place_failed k f s there p =
    let a : ℕ = actor_of k in
    let dead = λ (b : ℕ) (is : is_live b s.world.table ≡ false). dead_after b a s.world is in
    let same : (failed k f s).world.opened ≡ s.world.opened = opened_ended a s.world in
    record {
      named = names_still s (failed k f s) same dead (without_entry k s.connections)
          (each_without (λ e. HasCome s.world.opened e.0) k s.connections p.named);
      faults = each_with (λ e. HasEnded e.0 (failed k f s)) k f s.faults
          (subst (λ n. HasCome n k) (sym same) (come_there k s p there), dead_itself a s.world)
          (faults_still s (failed k f s) same dead s.faults p.faults);
    }

place_closed : (k : ℕ) (s : State) → IsInPlace s → IsInPlace (closed k s)
place_closed k s p =
    let a : ℕ = actor_of k in
    let dead = λ (b : ℕ) (is : is_live b s.world.table ≡ false). dead_after b a s.world is in
    let same : (closed k s).world.opened ≡ s.world.opened = opened_ended a s.world in
    record {
      named = names_still s (closed k s) same dead (without_entry k s.connections)
          (each_without (λ e. HasCome s.world.opened e.0) k s.connections p.named);
      faults = faults_still s (closed k s) same dead s.faults p.faults;
    }

place_accepted : (k : ℕ) (x : Admitting) (s : State) → is_there k s ≡ true → IsInPlace s
    → IsInPlace (accepted k x (nameless k s))
place_accepted k x s there p =
    let t : State = accepted k x (nameless k s) in
    let lasts : Lasts s.world t.world = lasts_sent (actor_of k) x.acts s.world in
    record {
      named = each_with (λ e. HasCome s.world.opened e.0) k x.ports (without_entry k s.connections)
          (come_there k s p there) (each_without (λ e. HasCome s.world.opened e.0) k s.connections p.named);
      faults = faults_still s t refl (λ b dead. lasts.live b ∙ dead) s.faults p.faults;
    }

place_turned : (a : ℕ) (s : State) → IsInPlace s → IsInPlace (record s { world = (turn a s.world).world })
place_turned a s p =
    let t : State = record s { world = (turn a s.world).world } in
    let lasts : Lasts s.world t.world = lasts_turn a s.world in
    record {
      named = names_still s t lasts.opened (λ b dead. lasts.live b ∙ dead) s.connections p.named;
      faults = faults_still s t lasts.opened (λ b dead. lasts.live b ∙ dead) s.faults p.faults;
    }

keeps_place : Keeps IsInPlace
keeps_place = record {
  binds = λ b s is p. record { named = p.named; faults = p.faults };
  watches = place_watching;
  opens = place_opened;
  fails = place_failed;
  dismisses = λ a s high low p. place_dismissed a s p;
  closes = λ k s there p. place_closed k s p;
  accepts = place_accepted;
  exports = λ k b ports s there p. record {
    named = each_with (λ e. HasCome s.world.opened e.0) k (names_after k b ports) s.connections
        (come_there k s p there) p.named;
    faults = p.faults;
  };
  turns = place_turned;
  tells = λ k s p. record {
    named = p.named;
    faults = each_without (λ e. HasEnded e.0 s) k s.faults p.faults;
  };
  stops = λ s p. record { named = p.named; faults = p.faults };
}

in_place : (ds : List Definition) (steps : List Step) → IsInPlace (replay ds steps)
in_place ds steps = run_keeps IsInPlace keeps_place (opening ds) steps (record { named = tt; faults = tt })

pub presence : Presence
presence ds steps may =
    let s : State = replay ds steps in
    let h = replay_hub ds steps may in
    let p : IsInPlace s = in_place ds steps in
    record {
      always = h.sound.always;
      watchers = h.sound.watchers;
      names = λ k since live.
          let n = h.named k since live in (
            each_found (λ e. HasCome s.world.opened e.0) k n.0 s.connections p.named n.1,
            ap (λ b. is_some (cond b (entry_of k s.connections) None)) live ∙ ap is_some n.1,
          );
      faults = p.faults;
    }
