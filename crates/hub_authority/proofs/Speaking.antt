-- In each run, a live connection's dialect stays once it is fixed.
use Rattle.std.proofs.Common.{◌≡◌, ℕ, ◌<◌, ◌≤◌, ◌==◌, nat_lt, List, [], ◌∷◌, Bool, true, false, cond, Option, Some}
use Rattle.std.proofs.Common.{None, ◌⊎◌, inl, inr, refl, sym, ap, ◌∙◌, subst, arith}
use Rattle.std.proofs.lemmas.Bool.Decides.{nat_tests}
use Rattle.ps_schema.specs.declared.Definition.{Definition}
use Rattle.ac_table.specs.Tables.{is_live}
use Rattle.ac_world.specs.Worlds.{actor_of, entry_of, ended_of, without_entry}
use Rattle.ac_world.specs.Lemmas.Entries.{put_found}
use Rattle.rl_packet.specs.declared.packets.Dialect.{Dialect}
use Rattle.rl_packet.specs.declared.packets.Turn.{Turn as TurnRecord}
use Rattle.rl_ports.specs.Ports.{PortsState, first_fixed, speaking}
use Rattle.hub_machine.specs.declared.faults.Fault.{Fault}
use Rattle.hub_machine.specs.State.{State, ports_of}
use Rattle.hub_machine.specs.Admission.{Admitted, refused, admitted, admission, turn_admission}
use Rattle.hub_machine.specs.Endings.{nameless, failed, finished}
use Rattle.hub_machine.specs.Lemmas.Dialects.{by_dialect}
use Rattle.hub_machine.specs.Machine.{step, is_worn, unchanged, accepted, judged, packet_at}
use Rattle.hub_machine.specs.Replays.{run_from, replay}
use Rattle.hub_machine.specs.declared.steps.Step.{Step}
use Rattle.hub_machine.specs.declared.steps.Step.TheVariants.{Packet}
use Rattle.hub_machine.specs.declared.steps.Reply.TheVariants.{Worn, Taken, Refused}
use Rattle.hub_valid.specs.Lemmas.Lives.{live_ended}
use Rattle.hub_authority.specs.Dialects.{DialectsStay, TakenTurnsFix, RefusedFixNone}
use Rattle.hub_authority.specs.Named.{told_by, first_by}
use Rattle.hub_authority.proofs.Dialects.{dialect_stays}
use Rattle.hub_authority.proofs.Endings.{keeps_finished}
use Rattle.hub_authority.proofs.Exporting.{Tells, WasTold, CameWith}
use Rattle.hub_authority.proofs.Runs.{counts_from_one, told_so}
use Rattle.hub_authority.proofs.Telling.{named_with, step_tells}

-- ---- it stays

-- connection k has come, and where it is still live, it has this dialect
record Speaks (k : ℕ) (d : Dialect) (s : State) : Type 0 where
  come : k ≤ s.world.opened
  fixed : (p : PortsState) → ports_of k s ≡ Some p → p.dialect ≡ Some d

step_speaks : (k : ℕ) (d : Dialect) (s : State) (e : Step) → 1 ≤ k → Speaks k d s → Speaks k d (step s e).state
step_speaks k d s e one was = record {
  come = let come = was.come in let more = tells.opened in omega (arith, come, more);
  fixed = λ p there. by p (tells.named p there);
}
  where
    tells : Tells k s (step s e).state (told_by k s e) (first_by k s e)
    tells = step_tells k s e one

    by : (p : PortsState) → WasTold k s (told_by k s e) p ⊎ CameWith k s (told_by k s e) (first_by k s e) p
        → p.dialect ≡ Some d
    by p (inl w) = w.fixed d (was.fixed w.before w.there)
    by p (inr c) = absurd (let come = was.come in let next = c.next in omega (arith, come, next))

run_speaks : (k : ℕ) (d : Dialect) (s : State) (steps : List Step) → 1 ≤ k → Speaks k d s
    → Speaks k d (run_from s steps)
run_speaks k d s [] one was = was
run_speaks k d s (e ∷ es) one was = run_speaks k d (step s e).state es one (step_speaks k d s e one was)

not_dead : (b : Bool) (o : Option PortsState) (p : PortsState) → b ≡ false → cond b o None ≡ Some p → ⊥
not_dead true o p dead is = cc
not_dead false o p dead is = cc

below : (m n : ℕ) → nat_lt m n ≡ true → m < n
below m n is = grind (arith, nat_tests, is)

not_below : (m n : ℕ) → nat_lt m n ≡ false → n ≤ m
not_below m n is = grind (arith, nat_tests, is)

has_come : (ds : List Definition) (k : ℕ) (steps : List Step) (ports : PortsState)
    → ports_of k (replay ds steps) ≡ Some ports → k ≤ (replay ds steps).world.opened
has_come ds k steps ports there = by (nat_lt s.world.opened k) refl
  where
    s : State
    s = replay ds steps

    by : (b : Bool) → nat_lt s.world.opened k ≡ b → k ≤ s.world.opened
    by true late =
        let dead = (told_so ds k steps ports there).unborn (below s.world.opened k late) in
        absurd (not_dead (is_live (actor_of k) s.world.table) (entry_of k s.connections) ports dead there)
    by false come = not_below s.world.opened k come

speaks_now : (ds : List Definition) (k : ℕ) (steps : List Step) (ports : PortsState) (d : Dialect)
    → ports_of k (replay ds steps) ≡ Some ports → ports.dialect ≡ Some d → Speaks k d (replay ds steps)
speaks_now ds k steps ports d there fixed = record {
  come = has_come ds k steps ports there;
  fixed = λ p is.
      let found : Some ports ≡ Some p = sym there ∙ is in
      let same : ports ≡ p = cc in
      ap (λ (q : PortsState). q.dialect) (sym same) ∙ fixed;
}

pub dialects_stay : DialectsStay
dialects_stay ds steps later k ports after d there fixed still =
    (run_speaks k d (replay ds steps) later (counts_from_one ds k steps ports there)
    (speaks_now ds k steps ports d there fixed)).fixed after still

-- ---- it is fixed

abbrev Fixes : ℕ → Dialect → State → Admitted → Type 0
Fixes k d s x =
    (judged k x (nameless k s)).reply ≡ Taken → (after : PortsState)
    → ports_of k (judged k x (nameless k s)).state ≡ Some after → after.dialect ≡ Some d

events_fix : (k : ℕ) (ports : PortsState) (t : TurnRecord) (d : Dialect) (s : State) (x : Admitted)
    → ports.dialect ≡ None → t.dialect ≡ Some d → admission k (speaking t.dialect ports) s.world t.events ≡ x
    → Fixes k d s x
events_fix k ports t d s (refused f) none some is taken = absurd cc
events_fix k ports t d s (admitted x) none some is taken = λ after there.
    let u : State = accepted k x (nameless k s) in
    let had = (keeps_finished k [] u).named after there in
    let found : x.ports ≡ had.before =
    named_with (is_live (actor_of k) u.world.table) (entry_of k u.connections) x.ports had.before
    (put_found k x.ports (without_entry k s.connections)) had.there in
    had.fixed d
    (ap (λ (q : PortsState). q.dialect) (sym found)
    ∙ dialect_stays k (speaking t.dialect ports) s.world t.events x is
    ∙ ap (λ o. first_fixed o t.dialect) none ∙ some)

pub taken_turns_fix : TakenTurnsFix
taken_turns_fix s k t ports after d there none some taken still =
    worn (is_worn s (Packet k t)) taken still
  where
    judge : Fixes k d s (turn_admission k ports s.world t)
    judge =
        by_dialect (Fixes k d s) k ports s.world t (λ is after there. absurd cc)
        (events_fix k ports t d s (admission k (speaking t.dialect ports) s.world t.events) none some refl)

    worn : (b : Bool) → (cond b (unchanged s Worn) (packet_at k (ports_of k s) t s)).reply ≡ Taken
        → ports_of k (cond b (unchanged s Worn) (packet_at k (ports_of k s) t s)).state ≡ Some after
        → after.dialect ≡ Some d
    worn true is found = absurd cc
    worn false is found =
        subst (λ o. (packet_at k o t s).reply ≡ Taken → ports_of k (packet_at k o t s).state ≡ Some after
        → after.dialect ≡ Some d) (sym there) (λ taken still. judge taken after still) is found

-- ---- a packet that is refused

failed_nameless : (k : ℕ) (f : Fault) (s : State) → ports_of k (finished [] (failed k f s)) ≡ None
failed_nameless k f s =
    let own : (actor_of k == actor_of k) ≡ true = grind (arith, nat_tests) in
    let gone : is_live (actor_of k) (ended_of (actor_of k) s.world).table ≡ false =
    live_ended (actor_of k) (actor_of k) s.world
    ∙ ap (λ b. cond b false (is_live (actor_of k) s.world.table)) own in
    let dead = (keeps_finished k [] (failed k f s)).live gone in
    ap (λ b. cond b (entry_of k (finished [] (failed k f s)).connections) None) dead

judged_nameless : (k : ℕ) (d : Admitted) (s : State) (f : Fault) → (judged k d (nameless k s)).reply ≡ Refused f
    → ports_of k (judged k d (nameless k s)).state ≡ None
judged_nameless k (refused g) s f is = failed_nameless k g s
judged_nameless k (admitted x) s f is = absurd cc

packet_nameless : (k : ℕ) (o : Option PortsState) (t : TurnRecord) (s : State) (f : Fault)
    → (packet_at k o t s).reply ≡ Refused f → ports_of k (packet_at k o t s).state ≡ None
packet_nameless k None t s f is = absurd cc
packet_nameless k (Some ports) t s f is = judged_nameless k (turn_admission k ports s.world t) s f is

pub refused_fix_none : RefusedFixNone
refused_fix_none s k t f = by (is_worn s (Packet k t))
  where
    by : (b : Bool) → (cond b (unchanged s Worn) (packet_at k (ports_of k s) t s)).reply ≡ Refused f
        → ports_of k (cond b (unchanged s Worn) (packet_at k (ports_of k s) t s)).state ≡ None
    by true is = absurd cc
    by false is = packet_nameless k (ports_of k s) t s f is
