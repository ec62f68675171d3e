-- In each run the rows for which the handles of connections stand have been made.
use Rattle.std.proofs.Common.{◌≡◌, ℕ, ◌+◌, ◌-◌, ◌<◌, ◌≤◌, ◌==◌, List, [], ◌∷◌, ◌++◌, Bool, true, false, cond, Option}
use Rattle.std.proofs.Common.{Some, None, refl, sym, ap, ◌∙◌, subst, arith, length}
use Rattle.std.specs.List.{AllByRecursion}
use Rattle.pv_value.specs.Plain.{Plain}
use Rattle.sr_caveat.specs.declared.caps.Cap.{Cap}
use Rattle.gk_sturdy.specs.declared.bound.Binding.{Binding}
use Rattle.ac_table.specs.declared.batches.Batch.{Batch}
use Rattle.ac_table.specs.declared.batches.Row.{Row as TableRow}
use Rattle.ac_table.specs.Tables.{find_row, lowest}
use Rattle.ac_world.specs.declared.acts.Act.{Act}
use Rattle.ac_world.specs.declared.acts.Act.TheVariants as act
use Rattle.ac_world.specs.declared.spreads.Spread.{Spread as SpreadOf}
use Rattle.ac_world.specs.declared.turns.Turned.{Turned}
use Rattle.ac_world.specs.declared.turns.Turned.TheVariants as turned
use Rattle.ac_world.specs.declared.watched.Watched.{Watched}
use Rattle.ac_world.specs.Outboxes.{Plan, plan_over, drop_row, drop_own, acted, all_acted}
use Rattle.ac_world.specs.Turns.{turn}
use Rattle.ac_world.specs.Worlds.{WorldState, actor_of, is_system, without_entry, binding, watching, sent}
use Rattle.ac_world.specs.Lemmas.Entries.{each_with, each_without, each_found}
use Rattle.rl_packet.specs.declared.packets.Event.{Event}
use Rattle.rl_packet.specs.declared.packets.Event.TheVariants.{Assert, Retract, Message, Sync}
use Rattle.rl_packet.specs.declared.packets.Turn.{Turn as TurnRecord}
use Rattle.rl_packet.specs.declared.packets.TurnEvent.{TurnEvent}
use Rattle.rl_ports.specs.declared.ports.Inbound.{Inbound}
use Rattle.rl_ports.specs.declared.ports.Inbound.TheVariants.{Row, Refused}
use Rattle.rl_ports.specs.Ports.{PortsState, speaking, inbound_of, ports_to}
use Rattle.hub_machine.specs.Limits.{most_events}
use Rattle.hub_machine.specs.declared.faults.Fault.{Fault}
use Rattle.hub_machine.specs.declared.faults.Fault.TheVariants.{BadPacket}
use Rattle.hub_machine.specs.declared.steps.Reply.{Reply}
use Rattle.hub_machine.specs.declared.steps.Reply.TheVariants.{Worn, Halted, Idle}
use Rattle.hub_machine.specs.declared.steps.Step.{Step}
use Rattle.hub_machine.specs.declared.steps.Step.TheVariants as does
use Rattle.hub_machine.specs.Faults.{over}
use Rattle.hub_machine.specs.State.{State, ports_of}
use Rattle.hub_machine.specs.Admission.{Admitting, Admitted, refused, admitted, admission, before_all, unless}
use Rattle.hub_machine.specs.Admission.{all_admitted, Aim, object, stale, unknown, aim_at, cause_of, after, after_at}
use Rattle.hub_machine.specs.Admission.{after_event, after_stale, after_assertion, after_retraction, after_message}
use Rattle.hub_machine.specs.Admission.{after_sync, through, peer_kept}
use Rattle.hub_machine.specs.Endings.{nameless, closed, failed, dismissed, finished}
use Rattle.hub_machine.specs.Lemmas.Dialects.{by_dialect}
use Rattle.hub_machine.specs.Lemmas.Naming.{handles_after}
use Rattle.hub_machine.specs.Machine.{unchanged, opened, refusal, arrive_unless, accepted, judged, packet_at, bad_at}
use Rattle.hub_machine.specs.Machine.{bind_unless, is_barred, is_unwatchable, watch_unless, actor_reference}
use Rattle.hub_machine.specs.Machine.{close_at, names_after, exporting, telling_fault, told_unless, tell, fault_for}
use Rattle.hub_machine.specs.Machine.{tell_fault, after_turn, turn_of, rest, work_by, is_worn, done, step}
use Rattle.hub_valid.specs.Lemmas.Lasting.{lasts_turn, later_watching}
use Rattle.hub_valid.specs.Lemmas.Lives.{next_ended, next_posted}
use Rattle.hub_valid.specs.Lemmas.StepEnds.{finished_keeps}
use Rattle.hub_valid.specs.Lemmas.Values.{all_weaker}
use Rattle.hub_laws.proofs.Steps.{named_of}
use Rattle.hub_handles.specs.Drawn.{row_by, WereDrawn}

-- the row for which the handle stands was made
abbrev pub StandsForMade : ℕ → ℕ × Inbound → Type 0
StandsForMade next i = WereDrawn next (row_by i.1)

abbrev pub AreMade : ℕ → List (ℕ × Inbound) → Type 0
AreMade next hs = AllByRecursion (StandsForMade next) hs

still_made : (m n : ℕ) (hs : List (ℕ × Inbound)) → m ≤ n → AreMade m hs → AreMade n hs
still_made m n hs l made =
    all_weaker (StandsForMade m) (StandsForMade n)
    (λ i drawn. all_weaker (λ h. h < m) (λ h. h < n) (λ h below. omega (arith, below, l)) (row_by i.1) drawn) hs made

-- ---- where the events of a packet so far have led

pub record HasWalked (k : ℕ) (w : WorldState) (x : Admitting) : Type 0 where
  pub next : (all_acted (actor_of k) x.acts (plan_over w.table)).table.next ≡ x.next
  pub later : w.table.next ≤ x.next
  pub made : AreMade x.next x.ports.handles

one_act_more : (a : ℕ) (xs : List Act) (x : Act) (p : Plan)
    → all_acted a (xs ++ x ∷ []) p ≡ acted a x (all_acted a xs p)
one_act_more a [] x p = refl
one_act_more a (y ∷ xs) x p = one_act_more a xs x (acted a y p)

drops_none : (a : ℕ) (o : Option TableRow) (p : Plan) → (drop_own a o p).table.next ≡ p.table.next
drops_none a None p = refl
drops_none a (Some r) p = by (r.owner == a)
  where
    by : (c : Bool) → (cond c (drop_row r p) p).table.next ≡ p.table.next
    by true = refl
    by false = refl

module _ (k : ℕ) (w : WorldState) where
  abbrev plan_of : List Act → Plan
  plan_of xs = all_acted (actor_of k) xs (plan_over w.table)

  next_with : (xs : List Act) (x : Act) → (plan_of (xs ++ x ∷ [])).table.next
      ≡ (acted (actor_of k) x (plan_of xs)).table.next
  next_with xs x = ap (λ (p : Plan). p.table.next) (one_act_more (actor_of k) xs x (plan_over w.table))

  walked_assertion : (to : Cap) (o : Option Plain) (h : ℕ) (x : Admitting) → HasWalked k w x
      → HasWalked k w (after_assertion w to o h x)
  walked_assertion to None h x walked = record {
    next = walked.next;
    later = walked.later;
    made = each_with (StandsForMade x.next) h Refused x.ports.handles tt walked.made;
  }
  walked_assertion to (Some v) h x walked = record {
    next = next_with x.acts (act.Assert to.actor to.entity v) ∙ ap (λ n. n + 1) walked.next;
    later = omega (arith, walked.later);
    made = each_with (StandsForMade (x.next + 1)) h (Row x.next) x.ports.handles (omega arith, tt)
        (still_made x.next (x.next + 1) x.ports.handles (omega arith) walked.made);
  }

  walked_retraction : (h : ℕ) (o : Option Inbound) (x : Admitting) → HasWalked k w x
      → HasWalked k w (after_retraction h o w x)
  walked_retraction h None x walked = walked
  walked_retraction h (Some Refused) x walked = record {
    next = walked.next;
    later = walked.later;
    made = each_without (StandsForMade x.next) h x.ports.handles walked.made;
  }
  walked_retraction h (Some (Row n)) x walked = record {
    next = next_with x.acts (act.Retract n)
        ∙ drops_none (actor_of k) (find_row n (plan_of x.acts).table.rows) (plan_of x.acts) ∙ walked.next;
    later = walked.later;
    made = each_without (StandsForMade x.next) h x.ports.handles walked.made;
  }

  walked_message : (to : Cap) (o : Option Plain) (x : Admitting) → HasWalked k w x
      → HasWalked k w (after_message w to o x)
  walked_message to None x walked = walked
  walked_message to (Some v) x walked = record {
    next = next_with x.acts (act.Message to.actor to.entity v) ∙ walked.next;
    later = walked.later;
    made = walked.made;
  }

  walked_sync : (to : Cap) (o : Option Plain) (x : Admitting) → HasWalked k w x
      → HasWalked k w (after_sync w to o x)
  walked_sync to None x walked = walked
  walked_sync to (Some v) x walked = record {
    next = next_with x.acts (act.Sync to.actor to.entity v) ∙ walked.next;
    later = walked.later;
    made = walked.made;
  }

  walked_event : (to : Cap) (e : Event) (x : Admitting) → HasWalked k w x → HasWalked k w (after_event k w to e x)
  walked_event to (Assert v h) x walked = walked_assertion to (through k w to v x) h x walked
  walked_event to (Retract h) x walked = walked_retraction h (inbound_of h x.ports) x walked
  walked_event to (Message v) x walked = walked_message to (through k w to v x) x walked
  walked_event to (Sync peer) x walked = walked_sync to (peer_kept k peer x) x walked

  walked_stale : (e : Event) (x : Admitting) → HasWalked k w x → HasWalked k w (after_stale w e x)
  walked_stale (Assert v h) x walked = record {
    next = walked.next;
    later = walked.later;
    made = each_with (StandsForMade x.next) h Refused x.ports.handles tt walked.made;
  }
  walked_stale (Retract h) x walked = walked_retraction h (inbound_of h x.ports) x walked
  walked_stale (Message v) x walked = walked
  walked_stale (Sync peer) x walked = walked

  walked_at : (o : Aim) (e : Event) (x : Admitting) → HasWalked k w x → HasWalked k w (after_at k w o e x)
  walked_at (object to) e x walked = walked_event to e x walked
  walked_at stale e x walked = walked_stale e x walked
  walked_at unknown e x walked = walked

  all_walked : (es : List TurnEvent) (x y : Admitting) → HasWalked k w x → all_admitted k w es x ≡ admitted y
      → HasWalked k w y
  all_walked [] x y walked is = let same : x ≡ y = cc in subst (HasWalked k w) same walked
  all_walked (e ∷ es) x y walked is =
      by (cause_of k w e x) is
      (all_walked es (after k w e x) y (walked_at (aim_at e.oid x.ports) e.event x walked))
    where
      by : (c : Option Fault) → unless c (all_admitted k w es (after k w e x)) ≡ admitted y
          → (all_admitted k w es (after k w e x) ≡ admitted y → HasWalked k w y) → HasWalked k w y
      by None is later = later is
      by (Some f) is later = absurd cc

-- ---- what all connections name

abbrev pub NamesMade : ℕ → ℕ × PortsState → Type 0
NamesMade next e = AreMade next e.1.handles

abbrev pub NameMade : State → Type 0
NameMade s = AllByRecursion (NamesMade s.world.table.next) s.connections

names_later : (m n : ℕ) (names : List (ℕ × PortsState)) → m ≤ n → AllByRecursion (NamesMade m) names
    → AllByRecursion (NamesMade n) names
names_later m n names l all =
    all_weaker (NamesMade m) (NamesMade n) (λ e made. still_made m n e.1.handles l made) names all

-- the world changes, and the next handle never falls
with_world : (w : WorldState) (s : State) → s.world.table.next ≤ w.table.next → NameMade s
    → NameMade (record s { world = w })
with_world w s l all = names_later s.world.table.next w.table.next s.connections l all

-- ---- endings

closed_names : (k : ℕ) (s : State) → NameMade s → NameMade (closed k s)
closed_names k s all =
    subst (λ n. AllByRecursion (NamesMade n) (without_entry k s.connections)) (sym (next_ended (actor_of k) s.world))
    (each_without (NamesMade s.world.table.next) k s.connections all)

failed_names : (k : ℕ) (f : Fault) (s : State) → NameMade s → NameMade (failed k f s)
failed_names k f s all = closed_names k s all

dismissed_names : (a : ℕ) (s : State) → NameMade s → NameMade (dismissed a s)
dismissed_names a s all =
    subst (λ n. AllByRecursion (NamesMade n) s.connections) (sym (next_ended a s.world)) all

finished_names : (xs : List SpreadOf) (s : State) → NameMade s → NameMade (finished xs s)
finished_names xs s all =
    finished_keeps NameMade (λ k f t there made. failed_names k f t made)
    (λ a t high low made. dismissed_names a t made) xs s all

-- ---- arrivals

arrive_names : (o : Option Reply) (space : ℕ) (s : State) → NameMade s → NameMade (arrive_unless o space s).state
arrive_names (Some r) space s all = all
arrive_names None space s all =
    finished_names [] (opened space s)
    (each_with (NamesMade s.world.table.next) (s.world.opened + 1) (ports_to (actor_reference space)) s.connections
    tt all)

-- ---- packets

accepted_names : (k : ℕ) (x : Admitting) (s : State) → HasWalked k s.world x → NameMade s
    → NameMade (accepted k x (nameless k s))
accepted_names k x s walked all =
    let plan : Plan = all_acted (actor_of k) x.acts (plan_over s.world.table) in
    let next : x.next ≡ (sent (actor_of k) x.acts s.world).table.next =
    sym (next_posted (actor_of k) plan.out plan.table ∙ walked.next) in
    subst (λ n. AllByRecursion (NamesMade n) (accepted k x (nameless k s)).connections) next
    (each_with (NamesMade x.next) k x.ports (without_entry k s.connections) walked.made
    (names_later s.world.table.next x.next (without_entry k s.connections) walked.later
    (each_without (NamesMade s.world.table.next) k s.connections all)))

-- what a live connection names
named_made : (k : ℕ) (ports : PortsState) (s : State) → NameMade s → ports_of k s ≡ Some ports
    → AreMade s.world.table.next ports.handles
named_made k ports s all is =
    each_found (NamesMade s.world.table.next) k ports s.connections all (named_of k ports s is).kept

refused_names : (k : ℕ) (f : Fault) (s : State) → NameMade s → NameMade (judged k (refused f) (nameless k s)).state
refused_names k f s all = finished_names [] (failed k f s) (failed_names k f s all)

judged_names : (k : ℕ) (ports : PortsState) (es : List TurnEvent) (d : Admitted) (s : State)
    → AreMade s.world.table.next ports.handles → NameMade s → admission k ports s.world es ≡ d
    → NameMade (judged k d (nameless k s)).state
judged_names k ports es (refused f) s made all is = refused_names k f s all
judged_names k ports es (admitted x) s made all is =
    finished_names [] (accepted k x (nameless k s)) (by (over most_events 3 (length es)) is)
  where
    start : Admitting
    start = before_all k ports s.world

    by : (c : Option Fault) → unless c (all_admitted k s.world es start) ≡ admitted x
        → NameMade (accepted k x (nameless k s))
    by None is =
        accepted_names k x s
        (all_walked k s.world es start x (record { next = refl; later = omega arith; made = made }) is) all
    by (Some f) is = absurd cc

packet_names : (k : ℕ) (o : Option PortsState) (t : TurnRecord) (s : State) → NameMade s → ports_of k s ≡ o
    → NameMade (packet_at k o t s).state
packet_names k None t s all is = all
packet_names k (Some ports) t s all is =
    let now : PortsState = speaking t.dialect ports in
    by_dialect (λ d. NameMade (judged k d (nameless k s)).state) k ports s.world t (refused_names k BadPacket s all)
    (judged_names k now t.events (admission k now s.world t.events) s (named_made k ports s all is) all refl)

bad_names : (k : ℕ) (o : Option PortsState) (f : Fault) (s : State) → NameMade s → NameMade (bad_at k o f s).state
bad_names k None f s all = all
bad_names k (Some ports) f s all = finished_names [] (failed k f s) (failed_names k f s all)

close_names : (k : ℕ) (o : Option PortsState) (s : State) → NameMade s → NameMade (close_at k o s).state
close_names k None s all = all
close_names k (Some ports) s all = finished_names [] (closed k s) (closed_names k s all)

-- ---- turns

fault_names : (a : ℕ) (o : Option Fault) (s : State) → NameMade s → NameMade (tell_fault a o s).state
fault_names a None s all = all
fault_names a (Some f) s all = finished_names [] (record s { faults = without_entry (a - 16) s.faults }) all

told_names : (o : Option Fault) (k : ℕ) (ports : PortsState) (b : Batch) (s : State) → NameMade s
    → ports_of k s ≡ Some ports → NameMade (told_unless o k ports b s).state
told_names (Some f) k ports b s all is = finished_names [] (failed k f s) (failed_names k f s all)
told_names None k ports b s all is =
    finished_names [] (exporting k b ports s)
    (each_with (NamesMade s.world.table.next) k (names_after k b ports) s.connections
    (subst (AreMade s.world.table.next) (sym (handles_after k b ports)) (named_made k ports s all is)) all)

tell_names : (k : ℕ) (o : Option PortsState) (b : Batch) (s : State) → NameMade s → ports_of k s ≡ o
    → NameMade (tell k o b s).state
tell_names k None b s all is = finished_names [] s all
tell_names k (Some ports) b s all is = told_names (telling_fault k b ports) k ports b s all is

after_names : (a : ℕ) (t : Turned) (s : State) → NameMade s → NameMade (after_turn a t s).state
after_names a (turned.Ran xs) s all = finished_names xs s all
after_names a (turned.Taken b) s all = tell_names (a - 16) (ports_of (a - 16) s) b s all refl
after_names a turned.Idle s all = all
after_names a turned.Gone s all = fault_names a (fault_for a s) s all

turn_names : (a : ℕ) (s : State) → NameMade s → NameMade (turn_of a s).state
turn_names a s all =
    after_names a (turn a s.world).turned (record s { world = (turn a s.world).world })
    (with_world (turn a s.world).world s (lasts_turn a s.world).later all)

rest_names : (b : Bool) (s : State) → NameMade s → NameMade (cond b (unchanged s Halted) (unchanged s Idle)).state
rest_names true s all = all
rest_names false s all = all

work_names : (o : Option ℕ) (s : State) → NameMade s → NameMade (work_by o s).state
work_names None s all = rest_names s.stopped s all
work_names (Some a) s all = by (is_system a)
  where
    by : (b : Bool) → NameMade (cond b (turn_of a s) (rest s)).state
    by true = turn_names a s all
    by false = rest_names s.stopped s all

-- ---- steps

bind_names : (c : Bool) (b : Binding) (s : State) → NameMade s → NameMade (bind_unless c b s).state
bind_names true b s all = all
bind_names false b s all = finished_names [] (record s { world = binding b s.world }) all

watch_names : (c : Bool) (x : Watched) (s : State) → NameMade s → NameMade (watch_unless c x s).state
watch_names true x s all = all
watch_names false x s all =
    finished_names [] (record s { world = watching x s.world })
    (with_world (watching x s.world) s (later_watching x s.world) all)

done_names : (s : State) (e : Step) → NameMade s → NameMade (done s e).state
done_names s (does.Bind b) all = bind_names (is_barred b s) b s all
done_names s (does.Watch x) all = watch_names (is_unwatchable x s) x s all
done_names s (does.Arrive space) all = arrive_names (refusal space s) space s all
done_names s (does.Packet k t) all = packet_names k (ports_of k s) t s all refl
done_names s (does.Bad k f) all = bad_names k (ports_of k s) f s all
done_names s (does.Close k) all = close_names k (ports_of k s) s all
done_names s (does.Turn a) all = turn_names a s all
done_names s does.Work all = work_names (lowest s.world.table) s all
done_names s does.Stop all = finished_names [] (record s { stopped = true }) all

pub step_names : (s : State) (e : Step) → NameMade s → NameMade (step s e).state
step_names s e all = by (is_worn s e)
  where
    by : (b : Bool) → NameMade (cond b (unchanged s Worn) (done s e)).state
    by true = all
    by false = done_names s e all
