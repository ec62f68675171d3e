-- In each run the handles of every connection ascend, and stand for rows that have been made; so each packet that is
-- taken does what it asks.
use Rattle.std.proofs.Common.{◌≡◌, ℕ, ◌+◌, ◌-◌, ◌≤◌, List, [], ◌∷◌, Bool, true, false, cond, Option, Some, None}
use Rattle.std.proofs.Common.{refl, sym, ◌∙◌, subst, arith, length}
use Rattle.std.specs.List.{AllByRecursion}
use Rattle.gk_sturdy.specs.declared.bound.Binding.{Binding}
use Rattle.ac_table.specs.declared.batches.Batch.{Batch}
use Rattle.ac_table.specs.Tables.{lowest}
use Rattle.ac_world.specs.declared.spreads.Spread.{Spread as SpreadOf}
use Rattle.ac_world.specs.declared.turns.Turned.{Turned}
use Rattle.ac_world.specs.declared.turns.Turned.TheVariants as turned
use Rattle.ac_world.specs.Outboxes.{Plan}
use Rattle.ac_world.specs.Turns.{turn}
use Rattle.ac_world.specs.declared.watched.Watched.{Watched}
use Rattle.ac_world.specs.Worlds.{WorldState, actor_of, is_system, without_entry, binding, watching}
use Rattle.ac_world.specs.Lemmas.Entries.{each_with, each_without, each_found, KeysAscend, ascend_none}
use Rattle.rl_packet.specs.declared.packets.Turn.{Turn as TurnRecord}
use Rattle.rl_packet.specs.declared.packets.TurnEvent.{TurnEvent}
use Rattle.rl_ports.specs.declared.ports.Inbound.{Inbound}
use Rattle.rl_ports.specs.Ports.{PortsState, speaking, ports_to}
use Rattle.hub_machine.specs.Limits.{most_events}
use Rattle.hub_machine.specs.declared.faults.Fault.{Fault}
use Rattle.hub_machine.specs.declared.faults.Fault.TheVariants.{BadPacket}
use Rattle.hub_machine.specs.declared.steps.Reply.{Reply}
use Rattle.hub_machine.specs.declared.steps.Reply.TheVariants.{Worn, Halted, Idle}
use Rattle.hub_machine.specs.declared.steps.Step.{Step}
use Rattle.hub_machine.specs.declared.steps.Step.TheVariants.{Bind, Watch, Arrive, Packet, Bad, Close, Turn, Work, Stop}
use Rattle.hub_machine.specs.Faults.{over}
use Rattle.hub_machine.specs.State.{State, opening, ports_of}
use Rattle.hub_machine.specs.Admission.{Admitting, Admitted, refused, admitted, admission, before_all, unless}
use Rattle.hub_machine.specs.Admission.{all_admitted}
use Rattle.hub_machine.specs.Endings.{nameless, closed, failed, dismissed, finished}
use Rattle.hub_machine.specs.Lemmas.Dialects.{by_dialect}
use Rattle.hub_machine.specs.Machine.{unchanged, opened, refusal, arrive_unless, accepted, judged, packet_at, bad_at}
use Rattle.hub_machine.specs.Machine.{bind_unless, is_barred, is_unwatchable, watch_unless}
use Rattle.hub_machine.specs.Machine.{close_at, names_after, exporting, telling_fault, told_unless, tell, fault_for}
use Rattle.hub_machine.specs.Machine.{tell_fault, after_turn, turn_of, rest, work_by, is_worn, done, step}
use Rattle.hub_machine.specs.Machine.{actor_reference}
use Rattle.hub_machine.specs.Replays.{run_from, replay}
use Rattle.hub_valid.specs.Validity.{IsValid}
use Rattle.hub_machine.specs.Lemmas.Naming.{handles_after}
use Rattle.hub_valid.specs.Lemmas.Hubs.{stays_valid}
use Rattle.hub_valid.specs.Lemmas.Values.{all_weaker}
use Rattle.hub_laws.specs.Laws.{AreAllowed}
use Rattle.hub_laws.proofs.Kept.{IsHub}
use Rattle.hub_laws.proofs.Opening.{replay_hub}
use Rattle.hub_laws.proofs.Steps.{named_of, step_hub}
use Rattle.hub_valid.specs.Lemmas.Lasting.{lasts_turn, later_watching}
use Rattle.hub_valid.specs.Lemmas.Lives.{next_ended, next_posted}
use Rattle.hub_valid.specs.Lemmas.StepEnds.{finished_keeps}
use Rattle.hub_authority.specs.Laws.{TakenPackets}
use Rattle.hub_authority.proofs.Asking.{StandBelow, HaveLed, plan_of, all_led}
use Rattle.hub_authority.proofs.Taking.{IsOrderly, walked_from, taken_does}

-- what a connection names, where next is the next handle
abbrev pub IsInOrder : ℕ → ℕ × PortsState → Type 0
IsInOrder next e = KeysAscend e.1.handles × StandBelow next e.1

abbrev pub AreInOrder : State → Type 0
AreInOrder s = AllByRecursion (IsInOrder s.world.table.next) s.connections

later_in_order : (m n : ℕ) (names : List (ℕ × PortsState)) → m ≤ n → AllByRecursion (IsInOrder m) names
    → AllByRecursion (IsInOrder n) names
later_in_order m n names l all =
    all_weaker (IsInOrder m) (IsInOrder n)
    (λ e i. (i.0, λ h r is. let less = i.1 h r is in omega (arith, l, less))) names all

-- the world changes, and the next handle never falls
with_world : (w : WorldState) (s : State) → s.world.table.next ≤ w.table.next → AreInOrder s
    → AreInOrder (record s { world = w })
with_world w s l all = later_in_order s.world.table.next w.table.next s.connections l all

-- ---- endings

closed_in_order : (k : ℕ) (s : State) → AreInOrder s → AreInOrder (closed k s)
closed_in_order k s all =
    subst (λ n. AllByRecursion (IsInOrder n) (without_entry k s.connections)) (sym (next_ended (actor_of k) s.world))
    (each_without (IsInOrder s.world.table.next) k s.connections all)

failed_in_order : (k : ℕ) (f : Fault) (s : State) → AreInOrder s → AreInOrder (failed k f s)
failed_in_order k f s all = closed_in_order k s all

dismissed_in_order : (a : ℕ) (s : State) → AreInOrder s → AreInOrder (dismissed a s)
dismissed_in_order a s all =
    subst (λ n. AllByRecursion (IsInOrder n) s.connections) (sym (next_ended a s.world)) all

finished_in_order : (xs : List SpreadOf) (s : State) → AreInOrder s → AreInOrder (finished xs s)
finished_in_order xs s all =
    finished_keeps AreInOrder (λ k f t there ordered. failed_in_order k f t ordered)
    (λ a t high low ordered. dismissed_in_order a t ordered) xs s all

-- ---- arrivals

arrive_in_order : (o : Option Reply) (space : ℕ) (s : State) → AreInOrder s
    → AreInOrder (arrive_unless o space s).state
arrive_in_order (Some r) space s all = all
arrive_in_order None space s all =
    finished_in_order [] (opened space s)
    (each_with (IsInOrder s.world.table.next) (s.world.opened + 1) (ports_to (actor_reference space))
    s.connections (ascend_none, λ h n is. absurd cc) all)

-- ---- packets

accepted_in_order : (k : ℕ) (ports : PortsState) (es : List TurnEvent) (x : Admitting) (s : State)
    → HaveLed k s.world es (before_all k ports s.world) x → AreInOrder s → AreInOrder (accepted k x (nameless k s))
accepted_in_order k ports es x s led all =
    let plan : Plan = plan_of k s.world x in
    let next : x.next ≡ (accepted k x (nameless k s)).world.table.next =
    sym (next_posted (actor_of k) plan.out plan.table ∙ led.walked.next_is) in
    subst (λ n. AllByRecursion (IsInOrder n) (accepted k x (nameless k s)).connections) next
    (each_with (IsInOrder x.next) k x.ports (without_entry k s.connections) (led.walked.ascend, led.walked.stand)
    (later_in_order s.world.table.next x.next (without_entry k s.connections) led.later
    (each_without (IsInOrder s.world.table.next) k s.connections all)))

-- what a connection names is in order, and the table is one
orderly_of : (k : ℕ) (ports : PortsState) (s : State) → IsHub [] s → AreInOrder s → ports_of k s ≡ Some ports
    → IsOrderly s ports
orderly_of k ports s h all is =
    let i = each_found (IsInOrder s.world.table.next) k ports s.connections all (named_of k ports s is).kept in
    (h.sound.table, i.0, i.1)

refused_in_order : (k : ℕ) (f : Fault) (s : State) → AreInOrder s
    → AreInOrder (judged k (refused f) (nameless k s)).state
refused_in_order k f s all = finished_in_order [] (failed k f s) (failed_in_order k f s all)

judged_in_order : (k : ℕ) (ports : PortsState) (es : List TurnEvent) (d : Admitted) (s : State) → IsOrderly s ports
    → AreInOrder s → admission k ports s.world es ≡ d → AreInOrder (judged k d (nameless k s)).state
judged_in_order k ports es (refused f) s orderly all is = refused_in_order k f s all
judged_in_order k ports es (admitted x) s orderly all is =
    finished_in_order [] (accepted k x (nameless k s)) (by (over most_events 3 (length es)) is)
  where
    start : Admitting
    start = before_all k ports s.world

    by : (c : Option Fault) → unless c (all_admitted k s.world es start) ≡ admitted x
        → AreInOrder (accepted k x (nameless k s))
    by None is =
        accepted_in_order k ports es x s (all_led k s.world es start x (walked_from s ports orderly) is) all
    by (Some f) is = absurd cc

packet_in_order : (k : ℕ) (o : Option PortsState) (t : TurnRecord) (s : State) → IsHub [] s → AreInOrder s
    → ports_of k s ≡ o → AreInOrder (packet_at k o t s).state
packet_in_order k None t s h all is = all
packet_in_order k (Some ports) t s h all is =
    let now : PortsState = speaking t.dialect ports in
    by_dialect (λ d. AreInOrder (judged k d (nameless k s)).state) k ports s.world t
    (refused_in_order k BadPacket s all)
    (judged_in_order k now t.events (admission k now s.world t.events) s (orderly_of k ports s h all is) all refl)

bad_in_order : (k : ℕ) (o : Option PortsState) (f : Fault) (s : State) → AreInOrder s
    → AreInOrder (bad_at k o f s).state
bad_in_order k None f s all = all
bad_in_order k (Some ports) f s all = finished_in_order [] (failed k f s) (failed_in_order k f s all)

close_in_order : (k : ℕ) (o : Option PortsState) (s : State) → AreInOrder s → AreInOrder (close_at k o s).state
close_in_order k None s all = all
close_in_order k (Some ports) s all = finished_in_order [] (closed k s) (closed_in_order k s all)

-- ---- turns

fault_in_order : (a : ℕ) (o : Option Fault) (s : State) → AreInOrder s → AreInOrder (tell_fault a o s).state
fault_in_order a None s all = all
fault_in_order a (Some f) s all = finished_in_order [] (record s { faults = without_entry (a - 16) s.faults }) all

told_in_order : (o : Option Fault) (k : ℕ) (ports : PortsState) (b : Batch) (s : State) → AreInOrder s
    → ports_of k s ≡ Some ports → AreInOrder (told_unless o k ports b s).state
told_in_order (Some f) k ports b s all is = finished_in_order [] (failed k f s) (failed_in_order k f s all)
told_in_order None k ports b s all is =
    finished_in_order [] (exporting k b ports s)
    (each_with (IsInOrder s.world.table.next) k (names_after k b ports) s.connections
    (subst (λ (hs : List (ℕ × Inbound)). IsInOrder s.world.table.next (k, record ports { handles = hs }))
    (sym (handles_after k b ports))
    (each_found (IsInOrder s.world.table.next) k ports s.connections all (named_of k ports s is).kept)) all)

tell_in_order : (k : ℕ) (o : Option PortsState) (b : Batch) (s : State) → AreInOrder s → ports_of k s ≡ o
    → AreInOrder (tell k o b s).state
tell_in_order k None b s all is = finished_in_order [] s all
tell_in_order k (Some ports) b s all is = told_in_order (telling_fault k b ports) k ports b s all is

after_in_order : (a : ℕ) (t : Turned) (s : State) → AreInOrder s → AreInOrder (after_turn a t s).state
after_in_order a (turned.Ran xs) s all = finished_in_order xs s all
after_in_order a (turned.Taken b) s all = tell_in_order (a - 16) (ports_of (a - 16) s) b s all refl
after_in_order a turned.Idle s all = all
after_in_order a turned.Gone s all = fault_in_order a (fault_for a s) s all

turn_in_order : (a : ℕ) (s : State) → AreInOrder s → AreInOrder (turn_of a s).state
turn_in_order a s all =
    after_in_order a (turn a s.world).turned (record s { world = (turn a s.world).world })
    (with_world (turn a s.world).world s (lasts_turn a s.world).later all)

rest_in_order : (b : Bool) (s : State) → AreInOrder s
    → AreInOrder (cond b (unchanged s Halted) (unchanged s Idle)).state
rest_in_order true s all = all
rest_in_order false s all = all

work_in_order : (o : Option ℕ) (s : State) → AreInOrder s → AreInOrder (work_by o s).state
work_in_order None s all = rest_in_order s.stopped s all
work_in_order (Some a) s all = by (is_system a)
  where
    by : (b : Bool) → AreInOrder (cond b (turn_of a s) (rest s)).state
    by true = turn_in_order a s all
    by false = rest_in_order s.stopped s all

-- ---- steps

bind_in_order : (c : Bool) (b : Binding) (s : State) → AreInOrder s → AreInOrder (bind_unless c b s).state
bind_in_order true b s all = all
bind_in_order false b s all = finished_in_order [] (record s { world = binding b s.world }) all

watch_in_order : (c : Bool) (x : Watched) (s : State) → AreInOrder s → AreInOrder (watch_unless c x s).state
watch_in_order true x s all = all
watch_in_order false x s all =
    finished_in_order [] (record s { world = watching x s.world })
    (with_world (watching x s.world) s (later_watching x s.world) all)

done_in_order : (s : State) (e : Step) → IsHub [] s → AreInOrder s → AreInOrder (done s e).state
done_in_order s (Bind b) h all = bind_in_order (is_barred b s) b s all
done_in_order s (Watch x) h all = watch_in_order (is_unwatchable x s) x s all
done_in_order s (Arrive space) h all = arrive_in_order (refusal space s) space s all
done_in_order s (Packet k t) h all = packet_in_order k (ports_of k s) t s h all refl
done_in_order s (Bad k f) h all = bad_in_order k (ports_of k s) f s all
done_in_order s (Close k) h all = close_in_order k (ports_of k s) s all
done_in_order s (Turn a) h all = turn_in_order a s all
done_in_order s Work h all = work_in_order (lowest s.world.table) s all
done_in_order s Stop h all = finished_in_order [] (record s { stopped = true }) all

step_in_order : (s : State) (e : Step) → IsHub [] s → AreInOrder s → AreInOrder (step s e).state
step_in_order s e h all = by (is_worn s e)
  where
    by : (b : Bool) → AreInOrder (cond b (unchanged s Worn) (done s e)).state
    by true = all
    by false = done_in_order s e h all

run_in_order : (s : State) (es : List Step) → AreAllowed s es → IsValid s → IsHub [] s → AreInOrder s
    → AreInOrder (run_from s es)
run_in_order s [] may valid h all = all
run_in_order s (e ∷ es) may valid h all =
    run_in_order (step s e).state es may.1 (stays_valid.1 s e valid may.0) (step_hub s e may.0 valid h)
    (step_in_order s e h all)

pub taken_packets : TakenPackets
taken_packets ds steps k t ports may there taken =
    taken_does (replay ds steps) k t ports
    (orderly_of k ports (replay ds steps) (replay_hub ds steps may)
    (run_in_order (opening ds) steps may (stays_valid.0 ds) (replay_hub ds [] tt) tt) there) there taken
