-- In each run the handles of every connection stand for rows of its own, no two for the same, and its rows are light:
-- so what is summed of them within a packet is what they weigh.
use Rattle.std.proofs.Common.{◌≡◌, ℕ, ◌+◌, ◌-◌, ◌<◌, ◌≤◌, List, [], ◌∷◌, Bool, true, false, cond, Option, Some, None}
use Rattle.std.proofs.Common.{refl, ap, sym, ◌∙◌, subst, arith, length}
use Rattle.ps_schema.specs.declared.Definition.{Definition}
use Rattle.gk_sturdy.specs.declared.bound.Binding.{Binding}
use Rattle.ac_table.specs.declared.batches.Batch.{Batch}
use Rattle.ac_table.specs.Tables.{is_live, lowest}
use Rattle.ac_world.specs.declared.spreads.Spread.{Spread as SpreadOf}
use Rattle.ac_world.specs.declared.turns.Turned.{Turned}
use Rattle.ac_world.specs.declared.turns.Turned.TheVariants as turned
use Rattle.ac_world.specs.declared.watched.Watched.{Watched}
use Rattle.ac_world.specs.Outboxes.{Plan, plan_over}
use Rattle.ac_world.specs.Turns.{turn}
use Rattle.ac_world.specs.Worlds.{actor_of, is_system, without_entry, binding, watching}
use Rattle.ac_world.specs.Lemmas.Entries.{ascend_none, ascend_without, each_found}
use Rattle.rl_packet.specs.declared.packets.Dialect.{Dialect}
use Rattle.rl_packet.specs.declared.packets.Turn.{Turn as TurnRecord}
use Rattle.rl_packet.specs.declared.packets.TurnEvent.{TurnEvent}
use Rattle.rl_ports.specs.Ports.{PortsState, speaking, ports_to}
use Rattle.hub_machine.specs.Limits.{most_events}
use Rattle.hub_machine.specs.declared.faults.Fault.{Fault}
use Rattle.hub_machine.specs.declared.faults.Fault.TheVariants.{BadPacket}
use Rattle.hub_machine.specs.declared.steps.Reply.{Reply}
use Rattle.hub_machine.specs.declared.steps.Reply.TheVariants.{Worn, Halted, Idle}
use Rattle.hub_machine.specs.declared.steps.Step.{Step}
use Rattle.hub_machine.specs.declared.steps.Step.TheVariants as does
use Rattle.hub_machine.specs.Faults.{over}
use Rattle.hub_machine.specs.State.{State, opening, ports_of}
use Rattle.hub_machine.specs.Admission.{Admitting, Admitted, refused, admitted, admission, before_all, unless}
use Rattle.hub_machine.specs.Admission.{all_admitted}
use Rattle.hub_machine.specs.Causes.{after_all}
use Rattle.hub_machine.specs.Endings.{nameless, closed, failed, dismissed, finished}
use Rattle.hub_machine.specs.Lemmas.Dialects.{by_dialect}
use Rattle.hub_machine.specs.Lemmas.Naming.{handles_after}
use Rattle.hub_machine.specs.Machine.{unchanged, opened, refusal, arrive_unless, accepted, judged, packet_at, bad_at}
use Rattle.hub_machine.specs.Machine.{bind_unless, is_barred, is_unwatchable, watch_unless, actor_reference}
use Rattle.hub_machine.specs.Machine.{close_at, names_after, exporting, telling_fault, told_unless, tell, fault_for}
use Rattle.hub_machine.specs.Machine.{tell_fault, after_turn, turn_of, rest, work_by, is_worn, done, step}
use Rattle.hub_machine.specs.Replays.{run_from, replay}
use Rattle.hub_valid.specs.Validity.{IsValid, IsValidEntry, lived}
use Rattle.hub_valid.specs.Lemmas.Hubs.{stays_valid}
use Rattle.hub_valid.specs.Lemmas.Lives.{rows_posted}
use Rattle.hub_valid.specs.Lemmas.StepEnds.{finished_keeps}
use Rattle.hub_valid.specs.Lemmas.Watchers.{may_watch}
use Rattle.hub_laws.specs.Laws.{AreAllowed}
use Rattle.hub_laws.proofs.Beginning.{watching_hub}
use Rattle.hub_laws.proofs.Good.{begin_good}
use Rattle.hub_laws.proofs.Kept.{IsHub}
use Rattle.hub_laws.proofs.Moving.{begin_moves}
use Rattle.hub_laws.proofs.Opening.{replay_hub}
use Rattle.hub_laws.proofs.OtherTurns.{turn_turned}
use Rattle.hub_laws.proofs.Packets.{IsPlanOf, all_acted_plan}
use Rattle.hub_laws.proofs.Steps.{named_of, step_hub}
use Rattle.hub_laws.proofs.Turns.{still_met}
use Rattle.hub_limits.specs.Weighing.{RowsAreWeighed}
use Rattle.hub_limits.proofs.Entered.{AreEntered, IsEntered, still_all, one_named, were_named, moved_keeps}
use Rattle.hub_limits.proofs.Entered.{start_so_far, entered_then, ended_entered, come_entered, handles_entered}
use Rattle.hub_limits.proofs.Entered.{speaking_entered, turn_keeps}
use Rattle.hub_limits.proofs.Weights.{weighs}
use Rattle.hub_limits.proofs.Within.{plan_of, IsSoFar, all_so_far, admitted_free}

-- each connection that the state names is so
abbrev AreNamed : State → Type 0
AreNamed s = AreEntered s.world.table.rows s.connections

-- ---- endings

-- a connection ends
closed_named : (k : ℕ) (s : State) → AreNamed s → AreNamed (closed k s)
closed_named k s e =
    ended_entered (actor_of k) s.world s.connections (without_entry k s.connections)
    (ascend_without k s.connections e.names_ascend)
    (λ j ports is. (were_named k s.connections e.names_ascend j ports is).0)
    (λ j ports is come same. (were_named k s.connections e.names_ascend j ports is).1 (omega (arith, same))) e

-- for a fault
failed_named : (k : ℕ) (f : Fault) (s : State) → AreNamed s → AreNamed (failed k f s)
failed_named k f s e = closed_named k s e

-- a watcher ends
dismissed_named : (a : ℕ) (s : State) → a < 17 → AreNamed s → AreNamed (dismissed a s)
dismissed_named a s low e =
    ended_entered a s.world s.connections s.connections e.names_ascend (λ k ports is. is)
    (λ k ports is come same. absurd (omega (arith, come, low, same))) e

-- a step ends
finished_named : (xs : List SpreadOf) (s : State) → AreNamed s → AreNamed (finished xs s)
finished_named xs s e =
    finished_keeps AreNamed (λ k f t there named. failed_named k f t named)
    (λ a t high low named. dismissed_named a t low named) xs s e

-- ---- arrivals

-- a connection comes with no handles
opened_named : (space : ℕ) (s : State) → IsHub [] s → AreNamed s → AreNamed (opened space s)
opened_named space s h e =
    one_named (s.world.opened + 1) s.world.table.rows (ports_to (actor_reference space)) s.connections
    (come_entered (s.world.opened + 1) (actor_reference space) s.world.table h.sound.table
    (by (is_live (actor_of (s.world.opened + 1)) s.world.table) refl) (omega arith)) e
  where
    by : (b : Bool) → is_live (actor_of (s.world.opened + 1)) s.world.table ≡ b → b ≡ false
    by true live = absurd (let high = h.sound.numbers _ live in omega (arith, high))
    by false dead = refl

-- or none comes
arrive_named : (o : Option Reply) (space : ℕ) (s : State) → IsHub [] s → AreNamed s
    → AreNamed (arrive_unless o space s).state
arrive_named (Some r) space s h e = e
arrive_named None space s h e = finished_named [] (opened space s) (opened_named space s h e)

-- ---- packets

-- a connection that is there
pub record IsOne (k : ℕ) (ports : PortsState) (s : State) : Type 0 where
  pub live : is_live (actor_of k) s.world.table ≡ true
  pub entered : IsEntered k s.world.table.rows ports

-- who has names is there
one_of : (k : ℕ) (ports : PortsState) (s : State) → AreNamed s → ports_of k s ≡ Some ports → IsOne k ports s
one_of k ports s e is =
    let n = named_of k ports s is in record { live = n.live; entered = e.each k ports n.kept }

-- whatever its dialect
speaking_one : (k : ℕ) (d : Option Dialect) (ports : PortsState) (s : State) → IsOne k ports s
    → IsOne k (speaking d ports) s
speaking_one k d ports s one =
    record { live = one.live; entered = speaking_entered k s.world.table.rows d ports one.entered }

-- a packet is taken
accepted_named : (k : ℕ) (ports : PortsState) (x : Admitting) (s : State) → IsHub [] s → IsOne k ports s
    → IsSoFar k s.world x → AreNamed s → AreNamed (accepted k x (nameless k s))
accepted_named k ports x s h one i e =
    subst (λ rows. AreEntered rows (accepted k x (nameless k s)).connections)
    (sym (rows_posted (actor_of k) p.out p.table))
    (one_named k p.table.rows x.ports (without_entry k s.connections)
    (entered_then k s.world x p.table one.entered.come i)
    (still_all s.world.table.rows p.table.rows s.connections (without_entry k s.connections) i.table.rows_ascend
    (ascend_without k s.connections e.names_ascend)
    (λ j other is was. moved_keeps (actor_of k) (actor_of j) s.world.table p
    (λ same. (were_named k s.connections e.names_ascend j other is).1 (omega (arith, same))) plan.moves)
    (λ j other is. (were_named k s.connections e.names_ascend j other is).0) e))
  where
    p : Plan
    p = plan_of k s.world x

    far : 17 ≤ actor_of k
    far = let come = one.entered.come in omega (arith, come)

    plan : IsPlanOf (actor_of k) s.world.table p
    plan =
        all_acted_plan (actor_of k) s.world.table (plan_over s.world.table) x.acts far one.live
        (record {
          moves = begin_moves (actor_of k) s.world.table h.sound.table;
          good = begin_good (actor_of k) s.world.table h.sound.rows;
        })

-- before its first event
start_one : (k : ℕ) (ports : PortsState) (s : State) → IsHub [] s → IsOne k ports s
    → IsSoFar k s.world (before_all k ports s.world)
start_one k ports s h one = start_so_far k ports s.world h.sound.table one.live one.entered

-- or it is refused
refused_named : (k : ℕ) (f : Fault) (s : State) → AreNamed s → AreNamed (judged k (refused f) (nameless k s)).state
refused_named k f s e = finished_named [] (failed k f s) (failed_named k f s e)

-- as its events are judged
judged_named : (k : ℕ) (ports : PortsState) (es : List TurnEvent) (d : Admitted) (s : State) → IsHub [] s
    → IsOne k ports s → AreNamed s → admission k ports s.world es ≡ d → AreNamed (judged k d (nameless k s)).state
judged_named k ports es (refused f) s h one e is = refused_named k f s e
judged_named k ports es (admitted x) s h one e is =
    finished_named [] (accepted k x (nameless k s)) (by (over most_events 3 (length es)) is)
  where
    start : Admitting
    start = before_all k ports s.world

    by : (c : Option Fault) → unless c (all_admitted k s.world es start) ≡ admitted x
        → AreNamed (accepted k x (nameless k s))
    by None is =
        let free = admitted_free k s.world es start x is in
        accepted_named k ports x s h one
        (subst (IsSoFar k s.world) free.1 (all_so_far k s.world es start free.0 (start_one k ports s h one))) e
    by (Some f) is = absurd cc

-- of whoever it is
packet_named : (k : ℕ) (o : Option PortsState) (t : TurnRecord) (s : State) → IsHub [] s → AreNamed s
    → ports_of k s ≡ o → AreNamed (packet_at k o t s).state
packet_named k None t s h e is = e
packet_named k (Some ports) t s h e is =
    let now : PortsState = speaking t.dialect ports in
    by_dialect (λ d. AreNamed (judged k d (nameless k s)).state) k ports s.world t (refused_named k BadPacket s e)
    (judged_named k now t.events (admission k now s.world t.events) s h
    (speaking_one k t.dialect ports s (one_of k ports s e is)) e refl)

-- bytes that are no packet
bad_named : (k : ℕ) (o : Option PortsState) (f : Fault) (s : State) → AreNamed s → AreNamed (bad_at k o f s).state
bad_named k None f s e = e
bad_named k (Some ports) f s e = finished_named [] (failed k f s) (failed_named k f s e)

-- a connection is closed
close_named : (k : ℕ) (o : Option PortsState) (s : State) → AreNamed s → AreNamed (close_at k o s).state
close_named k None s e = e
close_named k (Some ports) s e = finished_named [] (closed k s) (closed_named k s e)

-- ---- turns

-- a fault is told
fault_named : (a : ℕ) (o : Option Fault) (s : State) → AreNamed s → AreNamed (tell_fault a o s).state
fault_named a None s e = e
fault_named a (Some f) s e = finished_named [] (record s { faults = without_entry (a - 16) s.faults }) e

-- a batch is told, and its references exported, or the connection ends
told_named : (o : Option Fault) (k : ℕ) (ports : PortsState) (b : Batch) (s : State) → AreNamed s → IsOne k ports s
    → AreNamed (told_unless o k ports b s).state
told_named (Some f) k ports b s e one = finished_named [] (failed k f s) (failed_named k f s e)
told_named None k ports b s e one =
    finished_named [] (exporting k b ports s)
    (one_named k s.world.table.rows (names_after k b ports) s.connections
    (handles_entered k s.world.table.rows ports (names_after k b ports) (handles_after k b ports) one.entered) e)

-- to whoever it is
tell_named : (k : ℕ) (o : Option PortsState) (b : Batch) (s : State) → AreNamed s → ports_of k s ≡ o
    → AreNamed (tell k o b s).state
tell_named k None b s e is = finished_named [] s e
tell_named k (Some ports) b s e is = told_named (telling_fault k b ports) k ports b s e (one_of k ports s e is)

-- what follows from a turn
after_named : (a : ℕ) (t : Turned) (s : State) → AreNamed s → AreNamed (after_turn a t s).state
after_named a (turned.Ran xs) s e = finished_named xs s e
after_named a (turned.Taken b) s e = tell_named (a - 16) (ports_of (a - 16) s) b s e refl
after_named a turned.Idle s e = e
after_named a turned.Gone s e = fault_named a (fault_for a s) s e

-- a turn
turn_named : (a : ℕ) (s : State) → IsHub [] s → AreNamed s → AreNamed (turn_of a s).state
turn_named a s h e =
    after_named a (turn a s.world).turned (record s { world = (turn a s.world).world })
    (still_all s.world.table.rows (turn a s.world).world.table.rows s.connections s.connections
    (turn_turned a s.world h.sound).sound.table.rows_ascend e.names_ascend
    (λ k ports is was. turn_keeps a (actor_of k) s.world h.sound (let come = was.come in omega (arith, come)))
    (λ k ports is. is) e)

-- no turn
rest_named : (b : Bool) (s : State) → AreNamed s → AreNamed (cond b (unchanged s Halted) (unchanged s Idle)).state
rest_named true s e = e
rest_named false s e = e

-- the turn of the lowest
work_named : (o : Option ℕ) (s : State) → IsHub [] s → AreNamed s → AreNamed (work_by o s).state
work_named None s h e = rest_named s.stopped s e
work_named (Some a) s h e = by (is_system a)
  where
    by : (b : Bool) → AreNamed (cond b (turn_of a s) (rest s)).state
    by true = turn_named a s h e
    by false = rest_named s.stopped s e

-- ---- steps

-- a reference is bound
bind_named : (c : Bool) (b : Binding) (s : State) → AreNamed s → AreNamed (bind_unless c b s).state
bind_named true b s e = e
bind_named false b s e = finished_named [] (record s { world = binding b s.world }) e

-- a watcher begins before the first connection comes
watch_named : (c : Bool) (x : Watched) (s : State) → is_unwatchable x s ≡ c → IsValid s → IsHub [] s → AreNamed s
    → AreNamed (watch_unless c x s).state
watch_named true x s is valid h e = e
watch_named false x s is valid h e =
    finished_named [] (record s { world = watching x s.world })
    (record {
      rows_ascend = (watching_hub still_met x s is valid h).sound.table.rows_ascend;
      names_ascend = e.names_ascend;
      each = λ k ports there.
          let come = (each_found (IsValidEntry (lived s.world)) k ports s.connections valid.named there).0 in
          let low = come.0 in
          let high = come.1 in
          let none = (may_watch x s is).none_come in
          absurd (omega (arith, low, high, none));
    })

-- whatever the step
done_named : (s : State) (a : Step) → IsValid s → IsHub [] s → AreNamed s → AreNamed (done s a).state
done_named s (does.Bind b) valid h e = bind_named (is_barred b s) b s e
done_named s (does.Watch x) valid h e = watch_named (is_unwatchable x s) x s refl valid h e
done_named s (does.Arrive space) valid h e = arrive_named (refusal space s) space s h e
done_named s (does.Packet k t) valid h e = packet_named k (ports_of k s) t s h e refl
done_named s (does.Bad k f) valid h e = bad_named k (ports_of k s) f s e
done_named s (does.Close k) valid h e = close_named k (ports_of k s) s e
done_named s (does.Turn a) valid h e = turn_named a s h e
done_named s does.Work valid h e = work_named (lowest s.world.table) s h e
done_named s does.Stop valid h e = finished_named [] (record s { stopped = true }) e

-- or nothing is done
step_named : (s : State) (a : Step) → IsValid s → IsHub [] s → AreNamed s → AreNamed (step s a).state
step_named s a valid h e = by (is_worn s a)
  where
    by : (b : Bool) → AreNamed (cond b (unchanged s Worn) (done s a)).state
    by true = e
    by false = done_named s a valid h e

-- all steps
run_named : (s : State) (steps : List Step) → AreAllowed s steps → IsValid s → IsHub [] s → AreNamed s
    → AreNamed (run_from s steps)
run_named s [] may valid h e = e
run_named s (a ∷ steps) may valid h e =
    run_named (step s a).state steps may.1 (stays_valid.1 s a valid may.0) (step_hub s a may.0 valid h)
    (step_named s a valid h e)

-- at the beginning nobody is named
opening_named : (ds : List Definition) → AreNamed (opening ds)
opening_named ds = record {
  rows_ascend = ascend_none;
  names_ascend = ascend_none;
  each = λ k ports is. absurd cc;
}

-- ---- the law

-- the law of the limits within a packet
pub are_weighed : RowsAreWeighed
are_weighed ds steps may k ports d es there free =
    let s : State = replay ds steps in
    let start : Admitting = before_all k (speaking d ports) s.world in
    let h : IsHub [] s = replay_hub ds steps may in
    let e : AreNamed s =
    run_named (opening ds) steps may (stays_valid.0 ds) (replay_hub ds [] tt) (opening_named ds) in
    let i = all_so_far k s.world es start free
    (start_one k (speaking d ports) s h (speaking_one k d ports s (one_of k ports s e there))) in
    let p : Plan = plan_of k s.world (after_all k s.world es start) in
    record {
      rows = i.rows ∙ sym (ap (weighs (actor_of k)) (rows_posted (actor_of k) p.out p.table));
      few = i.few;
    }
