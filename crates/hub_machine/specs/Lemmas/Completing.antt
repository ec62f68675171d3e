-- What keeps to the limits is taken.
use Rattle.std.proofs.Common.{◌≡◌, ℕ, ◌+◌, ◌-◌, ◌≤◌, Bool, true, false, cond, List, [], ◌∷◌, drop, length, ◌==◌}
use Rattle.std.proofs.Common.{Option, Some, None}
use Rattle.std.specs.Prelude.{is_some}
use Rattle.std.proofs.Common.{Result, Ok, Err, IfOk, refl, sym, ap, ◌∙◌, subst, arith}
use Rattle.std.proofs.lemmas.Bool.Decides.{nat_tests}
use Rattle.pv_value.specs.Plain.{Plain}
use Rattle.sr_caveat.specs.declared.caps.Cap.{Cap}
use Rattle.ac_table.specs.declared.batches.Batch.{Batch}
use Rattle.ac_table.specs.Tables.{Actor, first_batch, first_in, find_actor, is_live, popped, with_inbox}
use Rattle.ac_table.specs.declared.loads.Load.{Load}
use Rattle.ac_world.specs.Worlds.{WorldState, is_system, actor_of}
use Rattle.ac_table.specs.Sums.{top}
use Rattle.ac_world.specs.Turns.{After as TurnOf, turn, turn_with, connection_turn}
use Rattle.rl_packet.specs.declared.packets.Event.{Event}
use Rattle.rl_packet.specs.declared.packets.Event.TheVariants.{Assert, Retract, Message, Sync}
use Rattle.rl_packet.specs.declared.packets.TurnEvent.{TurnEvent}
use Rattle.rl_packet.specs.declared.packets.Turn.{Turn as TurnRecord}
use Rattle.rl_ports.specs.Ports.{PortsState, speaking}
use Rattle.rl_wire.specs.Crossing.{size_fault, size_fault_of}
use Rattle.hub_machine.specs.Limits.{most_events, most_handles, most_rows_weight, most_backlog, most_backlog_weight}
use Rattle.hub_machine.specs.Faults.{Fault, BadPacket, HandleInUse, over, where_it_is}
use Rattle.hub_machine.specs.State.{State, ports_of}
use Rattle.hub_machine.specs.Admission.{Admitting, Admitted, admitted, before_all, after, kept, weighed, rows_with}
use Rattle.hub_machine.specs.Admission.{load_with, value_cause, references_cause, load_cause, through, peer_kept}
use Rattle.hub_machine.specs.Admission.{taking_cause, row_cause, assertion_cause, said_cause, stale_cause}
use Rattle.hub_machine.specs.Admission.{Aim, object, stale, unknown, aim_at}
use Rattle.hub_machine.specs.Admission.{event_cause, cause_at, unless, all_admitted, admission}
use Rattle.hub_machine.specs.Machine.{step, unchanged, packet_at, judged, turn_of, after_turn, tell, told_unless}
use Rattle.hub_machine.specs.Machine.{telling_fault}
use Rattle.hub_machine.specs.Endings.{nameless}
use Rattle.hub_machine.specs.declared.steps.Step.{Step}
use Rattle.hub_machine.specs.declared.steps.Step.TheVariants.{Bind, Watch, Arrive, Packet, Bad, Close, Turn, Work, Stop}
use Rattle.hub_machine.specs.declared.steps.Reply.{Reply}
use Rattle.hub_machine.specs.declared.steps.Reply.TheVariants.{Worn, Taken}
use Rattle.hub_machine.specs.Completeness.{IsLight, MayWait, IsFineValue, IsFineRow, IsFineAssertion, IsFineMessage}
use Rattle.hub_machine.specs.Completeness.{AreFineReferences, IsLightWhere, IsFineHandle, IsFineStale}
use Rattle.hub_machine.specs.Completeness.{IsFineEvent, IsFineAt, AreFine}
use Rattle.hub_machine.specs.Completeness.{IsFineFor, IsTurnReply, IsToldTo, told_reply, IsComplete}

within : (most which n : ℕ) → n ≤ most → over most which n ≡ None
within most which n l = grind (arith, nat_tests, l)

light : (v : Plain) → IsLight v → size_fault v ≡ None
light v l = grind (arith, nat_tests, l.0, l.1)

light_where : (o : Option Plain) → IsLightWhere o → size_fault_of o ≡ None
light_where None l = refl
light_where (Some v) l = light v l

fine_value : (k : ℕ) (v : Plain) (x : Admitting) → IsFineValue k v x → value_cause k v x ≡ None
fine_value k v x fine = rw (fine.0, light_where (kept k v x) fine.1)

fine_references : (v : Plain) (x : Admitting) → AreFineReferences v x → references_cause v x ≡ None
fine_references v x fine = rw fine refl

may_wait : (l : Load) → MayWait l → load_cause l ≡ None
may_wait l m = rw (within most_backlog 10 l.count m.0, within most_backlog_weight 11 l.weight m.1)

few : (n : ℕ) → n ≤ most_handles → top n ≤ most_handles
few n l = omega arith

fine_row : (w : WorldState) (to : Cap) (o : Option Plain) (x : Admitting) → IsFineRow w to o x
    → row_cause w to o x ≡ None
fine_row w to None x fine = refl
fine_row w to (Some v) x fine =
    rw (within most_rows_weight 5 (rows_with (weighed v) x) fine.0, may_wait (load_with w to (weighed v) x) fine.1)

fine_handle : (h : ℕ) (x : Admitting) → IsFineHandle h x → taking_cause h x ≡ None
fine_handle h x fine =
    rw (
      ap (λ b. where_it_is b (HandleInUse h)) fine.0,
      within most_handles 4 (top (length x.ports.handles + 1)) (few (length x.ports.handles + 1) fine.1),
    )

fine_assertion : (k : ℕ) (w : WorldState) (to : Cap) (v : Plain) (h : ℕ) (x : Admitting)
    → IsFineAssertion k w to v h x → assertion_cause k w to v h x ≡ None
fine_assertion k w to v h x fine =
    rw (fine_value k v x fine.0, fine_handle h x fine.1, fine_row w to (through k w to v x) x fine.2)

fine_message : (w : WorldState) (to : Cap) (o : Option Plain) (x : Admitting) → IsFineMessage w to o x
    → said_cause w to o x ≡ None
fine_message w to None x fine = refl
fine_message w to (Some v) x fine = may_wait (load_with w to (weighed v) x) fine

fine_event : (k : ℕ) (w : WorldState) (to : Cap) (e : Event) (x : Admitting) → IsFineEvent k w to e x
    → event_cause k w to e x ≡ None
fine_event k w to (Assert v h) x fine = fine_assertion k w to v h x fine
fine_event k w to (Retract h) x fine = rw fine
fine_event k w to (Message v) x fine =
    rw (fine_value k v x fine.0, fine_message w to (through k w to v x) x fine.1)
fine_event k w to (Sync peer) x fine =
    rw (fine_value k peer x fine.0, fine_message w to (peer_kept k peer x) x fine.1)

fine_stale : (e : Event) (x : Admitting) → IsFineStale e x → stale_cause e x ≡ None
fine_stale (Assert v h) x fine = rw (fine_references v x fine.0, fine_handle h x fine.1)
fine_stale (Retract h) x fine = rw fine
fine_stale (Message v) x fine = fine_references v x fine
fine_stale (Sync peer) x fine = fine_references peer x fine

fine_at : (k : ℕ) (w : WorldState) (a : Aim) (e : TurnEvent) (x : Admitting) → IsFineAt k w a e.event x
    → cause_at k w a e x ≡ None
fine_at k w (object to) e x fine = fine_event k w to e.event x fine
fine_at k w stale e x fine = fine_stale e.event x fine
fine_at k w unknown e x fine = absurd fine

-- all events are admitted, with what they leave
all_fine : (k : ℕ) (w : WorldState) (es : List TurnEvent) (x : Admitting) → AreFine k w es x
    → (y : Admitting) × (all_admitted k w es x ≡ admitted y)
all_fine k w [] x fine = (x, refl)
all_fine k w (e ∷ es) x fine =
    let rest = all_fine k w es (after k w e x) fine.1 in (
      rest.0,
      ap (λ c. unless c (all_admitted k w es (after k w e x)))
          (fine_at k w (aim_at e.oid x.ports) e x fine.0) ∙ rest.1,
    )

fine_admission : (k : ℕ) (ports : PortsState) (w : WorldState) (es : List TurnEvent) → length es ≤ most_events
    → AreFine k w es (before_all k ports w) → (y : Admitting) × (admission k ports w es ≡ admitted y)
fine_admission k ports w es few fine =
    let all = all_fine k w es (before_all k ports w) fine in
    let free = ap (λ c. unless c (all_admitted k w es (before_all k ports w))) (within most_events 3 (length es) few) in
    (all.0, free ∙ all.1)

fine_packet : (k : ℕ) (o : Option PortsState) (t : TurnRecord) (s : State) → IsFineFor k o t s
    → (packet_at k o t s).reply ≡ Taken
fine_packet k None t s fine = absurd fine
fine_packet k (Some ports) t s fine =
    let spoken = speaking t.dialect ports in
    let y = fine_admission k spoken s.world t.events fine.few fine.fine in
    ap (λ b. (judged k (unless (where_it_is b BadPacket) (admission k spoken s.world t.events)) (nameless k s)).reply)
    fine.dialect
    ∙ ap (λ (d : Admitted). (judged k d (nameless k s)).reply) y.1

-- ---- turns

-- the actor of a batch that waits is live
waits_for_live : (a : ℕ) (s : State) (b : Batch) → first_batch a s.world.table ≡ Some b → is_live a s.world.table ≡ true
waits_for_live a s b is = by (find_actor a s.world.table.actors) is
  where
    by : (o : Option Actor) → first_in o ≡ Some b → is_some o ≡ true
    by None is = absurd cc
    by (Some x) is = refl

turn_is : (a : ℕ) (s : State) (b : Batch) → first_batch a s.world.table ≡ Some b
    → turn a s.world ≡ turn_with a b (record s.world { table = popped a s.world.table })
turn_is a s b is = rw (waits_for_live a s b is, is) refl

-- who is live stays so where an inbox changes
still_live : (a c : ℕ) (f : List Batch → List Batch) (xs : List Actor)
    → is_some (find_actor a (with_inbox c f xs)) ≡ is_some (find_actor a xs)
still_live a c f [] = refl
still_live a c f (x ∷ xs) = by (x.number == c) (still_live a c f xs)
  where
    by : (b : Bool) → is_some (find_actor a (with_inbox c f xs)) ≡ is_some (find_actor a xs)
        → is_some (find_actor a (cond b (record { number = x.number; inbox = f x.inbox } ∷ xs) (x ∷ with_inbox c f xs)))
        ≡ is_some (find_actor a (x ∷ xs))
    by true later = at (x.number == a)
      where
        at : (b : Bool) → is_some (cond b (Some (record { number = x.number; inbox = f x.inbox })) (find_actor a xs))
            ≡ is_some (cond b (Some x) (find_actor a xs))
        at true = refl
        at false = refl
    by false later = at (x.number == a)
      where
        at : (b : Bool) → is_some (cond b (Some x) (find_actor a (with_inbox c f xs)))
            ≡ is_some (cond b (Some x) (find_actor a xs))
        at true = refl
        at false = later

-- the state once a connection's batch is taken
abbrev taken_by : ℕ → State → Batch → State
taken_by a s b =
    record s { world = (connection_turn a b (record s.world { table = popped a s.world.table })).world }

-- its names are the same
names_after : (k a : ℕ) (s : State) (b : Batch) → ports_of k (taken_by a s b) ≡ ports_of k s
names_after k a s b = rw (still_live (actor_of k) a (drop 1) s.world.table.actors) refl

told_is : (f : Option Fault) (k : ℕ) (b : Batch) (ports : PortsState) (s : State)
    → (told_unless f k ports b s).reply ≡ told_reply f k b ports
told_is None k b ports s = refl
told_is (Some f) k b ports s = refl

tell_is : (k : ℕ) (o : Option PortsState) (b : Batch) (s : State) → IsToldTo k o b (tell k o b s).reply
tell_is k None b s = refl
tell_is k (Some ports) b s = told_is (telling_fault k b ports) k b ports s

told_after : (k a : ℕ) (s : State) (b : Batch) → IsToldTo k (ports_of k s) b (tell k (ports_of k (taken_by a s b)) b
    (taken_by a s b)).reply
told_after k a s b =
    subst (λ o. IsToldTo k (ports_of k s) b (tell k o b (taken_by a s b)).reply) (sym (names_after k a s b))
    (tell_is k (ports_of k s) b (taken_by a s b))

-- what a batch's turn is answered
turn_reply : (a : ℕ) (s : State) (b : Batch) → first_batch a s.world.table ≡ Some b
    → IsTurnReply (is_system a) a b s (turn_of a s).reply
turn_reply a s b is =
    subst (λ (t : TurnOf). IsTurnReply (is_system a) a b s (after_turn a t.turned (record s { world = t.world })).reply)
    (sym (turn_is a s b is)) (by (is_system a) refl)
  where
    w : WorldState
    w = record s.world { table = popped a s.world.table }

    by : (y : Bool) → is_system a ≡ y
        → IsTurnReply y a b s
        (after_turn a (turn_with a b w).turned (record s { world = (turn_with a b w).world })).reply
    by true q = rw q refl
    by false q = rw q (told_after (a - 16) a s b)

-- ---- steps

pub complete : (s : State) (e : Step) → IsComplete s e (step s e).reply
complete s (Bind b) = tt
complete s (Watch x) = tt
complete s (Arrive space) = tt
complete s (Packet k t) = λ fresh fine.
    ap (λ b. (cond b (unchanged s Worn) (packet_at k (ports_of k s) t s)).reply) fresh
    ∙ fine_packet k (ports_of k s) t s fine
complete s (Bad k f) = tt
complete s (Close k) = tt
complete s (Turn a) = λ fresh b is.
    subst (λ w. IsTurnReply (is_system a) a b s (cond w (unchanged s Worn) (turn_of a s)).reply) (sym fresh)
    (turn_reply a s b is)
complete s Work = tt
complete s Stop = tt

pub complete_done : {A E : Type 0} (s : State) (e : Step) (reply_in : A → Reply) (r : Result A E)
    → IfOk r (λ x. reply_in x ≡ (step s e).reply) → IfOk r (λ x. IsComplete s e (reply_in x))
complete_done s e reply_in (Ok x) is = subst (IsComplete s e) (sym is) (complete s e)
complete_done s e reply_in (Err f) is = tt
