-- The assertions that a connection was sent, and then those that wait for it, ascend by their handles.
use Rattle.std.proofs.Common.{◌≡◌, ◌≢◌, ℕ, zero, suc, ◌+◌, ◌-◌, ◌<◌, ◌≤◌, ◌==◌, List, [], ◌∷◌, ◌++◌, Bool, true, false}
use Rattle.std.proofs.Common.{cond, map, Option, Some, None, is_some, inl, inr, refl, sym, ap, ◌∙◌, subst, arith}
use Rattle.std.proofs.Common.{append-nil, append_assoc}
use Rattle.std.specs.List.{AllByRecursion, flat_map}
use Rattle.std.specs.List.Sorted.{IsStrictlySortedBy}
use Rattle.std.specs.Ordering.{nat_cmp}
use Rattle.std.proofs.lemmas.Bool.Decides.{nat_tests}
use Rattle.std.proofs.lemmas.Grind.{flat_map-append}
use Rattle.gk_sturdy.specs.declared.bound.Binding.{Binding}
use Rattle.ps_schema.specs.declared.Definition.{Definition}
use Rattle.ac_table.specs.declared.batches.Batch.{Batch}
use Rattle.ac_table.specs.declared.batches.Event.{Event}
use Rattle.ac_table.specs.declared.batches.Event.TheVariants.{Assert, Retract, Message, Sync}
use Rattle.ac_table.specs.Tables.{Actor, find_actor, is_live, lowest, first_batch}
use Rattle.ac_table.specs.Lemmas.Lists.{all_weaker}
use Rattle.ac_world.specs.declared.spreads.Spread.{Spread as SpreadOf}
use Rattle.ac_world.specs.declared.turns.Turned.TheVariants as turned
use Rattle.ac_world.specs.Turns.{After as TurnOf, deliver, turn_with, turn_first}
use Rattle.ac_world.specs.Worlds.{WorldState, is_system, actor_of, arrived, binding, entry_of, without_entry}
use Rattle.ac_world.specs.Lemmas.Entries.{ascend_none, all_append}
use Rattle.rl_packet.specs.Holding.{events_in}
use Rattle.rl_packet.specs.declared.packets.Dialect.{Dialect}
use Rattle.rl_packet.specs.declared.packets.TurnEvent.{TurnEvent}
use Rattle.rl_ports.specs.Ports.{PortsState, ExportTable, ports_to}
use Rattle.hub_machine.specs.Endings.{failed, finished}
use Rattle.hub_machine.specs.declared.faults.Fault.{Fault}
use Rattle.hub_machine.specs.Machine.{After, unchanged, sent_event, packet_to, bind_unless, is_barred, is_unwatchable}
use Rattle.hub_machine.specs.Machine.{exports_after, exporting, telling_fault, told_unless, tell, opened, refusal}
use Rattle.hub_machine.specs.Machine.{arrive_unless, fault_for, tell_fault, after_turn, turn_of, is_worn, done, step}
use Rattle.hub_machine.specs.Machine.{actor_reference}
use Rattle.hub_machine.specs.Replays.{run_from, replay, packet_in, sent_by, sent_from, sent_to}
use Rattle.hub_machine.specs.State.{State, opening, ports_of}
use Rattle.hub_machine.specs.declared.steps.Step.{Step}
use Rattle.hub_machine.specs.declared.steps.Step.TheVariants as does
use Rattle.hub_machine.specs.declared.steps.Reply.{Reply}
use Rattle.hub_machine.specs.declared.steps.Reply.TheVariants.{Worn, Idle, Refused}
use Rattle.hub_valid.specs.Validity.{Lived, IsValid, IsValidEvent, lived}
use Rattle.hub_valid.specs.Lemmas.Hubs.{stays_valid}
use Rattle.hub_valid.specs.Lemmas.Lives.{next_ended, opened_ended}
use Rattle.hub_valid.specs.Lemmas.StepEnds.{finished_keeps}
use Rattle.hub_valid.specs.Lemmas.WorldTables.{first_valid}
use Rattle.hub_valid.specs.Lemmas.Worlds.{table_of}
use Rattle.hub_laws.specs.Laws.{AreAllowed}
use Rattle.hub_laws.specs.Standing.{events_of}
use Rattle.hub_laws.proofs.Growing.{arrived_grows, grows_alike}
use Rattle.hub_laws.proofs.Joining.{joined_new, above_is_new}
use Rattle.hub_laws.proofs.Kept.{made_in, IsLog, IsSound, IsHub}
use Rattle.hub_laws.proofs.Leaving.{one_or_not}
use Rattle.hub_laws.proofs.Moving.{made_in-append}
use Rattle.hub_laws.proofs.Opening.{replay_hub}
use Rattle.hub_laws.proofs.Posting.{found-popped, live-popped}
use Rattle.hub_laws.proofs.Presence.{handles_rise}
use Rattle.hub_laws.proofs.Sending.{events_by, fault_tells}
use Rattle.hub_laws.proofs.Staying.{Stays, stays_not, stays_on, world_stays, other_stays, ended_not_found}
use Rattle.hub_laws.proofs.Staying.{finished_stays, bad_stays, close_stays, packet_stays, fault_stays}
use Rattle.hub_laws.proofs.Staying.{other_turn_stays, work_stays, watch_stays}
use Rattle.hub_laws.proofs.Steps.{step_hub}
use Rattle.hub_laws.proofs.Turns.{without_first, ascend_before, HasFirst, has_first}
use Rattle.hub_laws.proofs.Zeroth.{zeroth_unsent}
use Rattle.hub_handles.specs.Drawn.{WereDrawn}
use Rattle.hub_handles.specs.Once.{asserted_in, told_in, AreSentOnce}
use Rattle.hub_handles.specs.Laws.{AssertionsAreSentOnce}

-- ---- what is told of events

-- the handles of the assertions that are sent are those of the events
asserted_sent : (exports : ExportTable) (k : ℕ) (es : List Event)
    → asserted_in (map (sent_event exports k) es) ≡ made_in es
asserted_sent exports k [] = refl
asserted_sent exports k (Assert h entity v ∷ es) = ap (λ hs. h ∷ hs) (asserted_sent exports k es)
asserted_sent exports k (Retract h entity ∷ es) = asserted_sent exports k es
asserted_sent exports k (Message entity v ∷ es) = asserted_sent exports k es
asserted_sent exports k (Sync entity peer ∷ es) = asserted_sent exports k es

-- each handle of which valid events tell was drawn
told_drawn : (n : Lived) (next : ℕ) (exports : ExportTable) (k : ℕ) (es : List Event)
    → AllByRecursion (IsValidEvent n next) es → WereDrawn next (told_in (map (sent_event exports k) es))
told_drawn n next exports k [] valid = tt
told_drawn n next exports k (Assert h entity v ∷ es) valid = (valid.0.0, told_drawn n next exports k es valid.1)
told_drawn n next exports k (Retract h entity ∷ es) valid = (valid.0.0, told_drawn n next exports k es valid.1)
told_drawn n next exports k (Message entity v ∷ es) valid = told_drawn n next exports k es valid.1
told_drawn n next exports k (Sync entity peer ∷ es) valid = told_drawn n next exports k es valid.1

-- ---- what connection k was sent

-- Of what it was sent the assertions ascend, and the handles were drawn; and while it is live, those that wait for it go
-- on from there. Before it came it was sent nothing.
pub record AreSent (k : ℕ) (es : List TurnEvent) (s : State) : Type 0 where
  pub none : s.world.opened < k → es ≡ []
  pub ascend : IsStrictlySortedBy nat_cmp (asserted_in es)
  pub drawn : WereDrawn s.world.table.next (told_in es)
  pub live : (x : Actor) → find_actor (actor_of k) s.world.table.actors ≡ Some x
      → IsLog s.world.table.next (asserted_in es) x.inbox

still_drawn : (m n : ℕ) (hs : List ℕ) → m ≤ n → WereDrawn m hs → WereDrawn n hs
still_drawn m n hs l drawn = all_weaker (λ h. h < m) (λ h. h < n) (λ h below. omega (arith, below, l)) hs drawn

sent_alike : (k : ℕ) (es : List TurnEvent) (s t : State) → Stays k s t → s.world.table.next ≤ t.world.table.next
    → AreSent k es s → AreSent k es t
sent_alike k es s t stays rises sent = record {
  none = λ before. sent.none (omega (arith, stays.grows.opened, before));
  ascend = sent.ascend;
  drawn = still_drawn s.world.table.next t.world.table.next (told_in es) rises sent.drawn;
  live = λ x is. let i = stays.grows.still x is in i.log (asserted_in es) (sent.live i.before i.found);
}

-- and nothing more is sent
sent_nothing : (k : ℕ) (es ds : List TurnEvent) (s t : State) → ds ≡ [] → Stays k s t
    → s.world.table.next ≤ t.world.table.next → AreSent k es s → AreSent k (es ++ ds) t
sent_nothing k es ds s t none stays rises sent =
    subst (λ cs. AreSent k cs t) (sym (ap (λ cs. es ++ cs) none ∙ append-nil es)) (sent_alike k es s t stays rises sent)

-- ---- a step ends

finished_rises : (xs : List SpreadOf) (s : State) → s.world.table.next ≤ (finished xs s).world.table.next
finished_rises xs s =
    finished_keeps (λ t. s.world.table.next ≤ t.world.table.next)
    (λ k f t there l. subst (λ n. s.world.table.next ≤ n) (sym (next_ended (actor_of k) t.world)) l)
    (λ a t high low l. subst (λ n. s.world.table.next ≤ n) (sym (next_ended a t.world)) l) xs s (omega arith)

sent_finished : (k : ℕ) (es : List TurnEvent) (xs : List SpreadOf) (s : State) → AreSent k es s
    → AreSent k es (finished xs s)
sent_finished k es xs s sent = sent_alike k es s (finished xs s) (finished_stays k xs s) (finished_rises xs s) sent

-- ---- a connection comes

opened_stays : (k space : ℕ) (s : State) → actor_of k ≢ actor_of (s.world.opened + 1) → Stays k s (opened space s)
opened_stays k space s apart =
    let ports : PortsState = ports_to (actor_reference space) in
    let t : State = record s { world = arrived s.world } in
    stays_on k s t (opened space s) (world_stays k s (arrived s.world) (arrived_grows (actor_of k) s.world apart))
    (other_stays k (s.world.opened + 1) ports t (λ same. apart (ap actor_of same)))

-- nothing waits for it
first_log : (es : List TurnEvent) (next : ℕ) (x : Actor) → es ≡ [] → x.inbox ≡ [] → IsLog next (asserted_in es) x.inbox
first_log es next x none empty =
    subst (λ ds. IsLog next (asserted_in ds) x.inbox) (sym none)
    (subst (λ bs. IsLog next [] bs) (sym empty) (ascend_none, tt))

new_inbox : (a : ℕ) (w : WorldState) (x : Actor) → is_live a w.table ≡ false → a ≡ actor_of (w.opened + 1)
    → find_actor a (arrived w).table.actors ≡ Some x → x.inbox ≡ []
new_inbox a w x dead same is =
    let new : ℕ = actor_of (w.opened + 1) in
    let gone : is_live new w.table ≡ false = subst (λ b. is_live b w.table ≡ false) same dead in
    let found : find_actor new (arrived w).table.actors ≡ Some x =
    subst (λ b. find_actor b (arrived w).table.actors ≡ Some x) same is in
    let one : Some (record { number = new; inbox = [] }) ≡ Some x = sym (joined_new new w.table gone) ∙ found in
    let y : record { number = new; inbox = [] } ≡ x = cc in
    sym (ap (λ (z : Actor). z.inbox) y)

sent_arrived : (k space : ℕ) (es : List TurnEvent) (s : State) → IsSound [] s.world → AreSent k es s
    → AreSent k es (opened space s)
sent_arrived k space es s sound sent = elim (one_or_not (actor_of k) (actor_of (s.world.opened + 1))) [
  | inr apart ↦ sent_alike k es s (opened space s) (opened_stays k space s apart) (omega arith) sent
  | inl same ↦
      (let number : k ≡ s.world.opened + 1 = omega (arith, same) in
      let dead : is_live (actor_of k) s.world.table ≡ false =
      above_is_new (actor_of k) s.world.table (λ b live. omega (arith, sound.numbers b live, number)) in
      let empty : es ≡ [] = sent.none (omega (arith, number)) in
      record {
        none = λ before. empty;
        ascend = sent.ascend;
        drawn = sent.drawn;
        live = λ x is. first_log es s.world.table.next x empty (new_inbox (actor_of k) s.world x dead same is);
      })
]

-- ---- the replies that tell of no event

none_by : (k a : ℕ) (r : Reply) → flat_map events_in (packet_in r) ≡ [] → events_by k (does.Turn a) r ≡ []
none_by k a r none = by (a == actor_of k)
  where
    by : (c : Bool) → flat_map events_in (cond c (packet_in r) []) ≡ []
    by true = none
    by false = refl

other_tells : (k a : ℕ) (r : Reply) → actor_of k ≢ a → events_by k (does.Turn a) r ≡ []
other_tells k a r apart = let other : (a == actor_of k) ≡ false = grind (arith, nat_tests, apart) in rw other refl

own_tells : (k : ℕ) (exports : ExportTable) (d : Option Dialect) (b : Batch)
    → events_by k (does.Turn (actor_of k)) (packet_to exports d k b) ≡ map (sent_event exports k) b.events
own_tells k exports d b =
    let own : (actor_of k == actor_of k) ≡ true = grind (arith, nat_tests) in
    rw own (append-nil (map (sent_event exports k) b.events))

abbrev pub AreSentBy : ℕ → Step → List TurnEvent → After → Type 0
AreSentBy k e es t = AreSent k (es ++ events_by k e t.reply) t.state

-- ---- a connection takes its batch, and is told of it

module _ (k : ℕ) (since : 1 ≤ k) (es : List TurnEvent) (s : State) (hub : IsHub [] s) (valid : IsValid s)
    (sent : AreSent k es s) (lives : is_live (actor_of k) s.world.table ≡ true) where
  abbrev own : ℕ
  own = actor_of k

  -- it has come
  has_come : k ≤ s.world.opened
  has_come = let low = hub.sound.numbers own lives in omega (arith, low)

  module _ (b : Batch) (first : first_batch own s.world.table ≡ Some b) where
    abbrev taking : State
    taking = record s { world = deliver own b.events (without_first own s.world) }

    abbrev more : ExportTable → List TurnEvent
    more exports = map (sent_event exports k) b.events

    asserted_more : (exports : ExportTable)
        → asserted_in (es ++ more exports) ≡ asserted_in es ++ made_in b.events
    asserted_more exports =
        flat_map-append _ es (more exports) ∙ ap (λ hs. asserted_in es ++ hs) (asserted_sent exports k b.events)

    -- with the assertions that wait behind the batch
    all_asserted : (exports : ExportTable) (rest : List Batch)
        → asserted_in es ++ made_in (events_of (b ∷ rest))
        ≡ asserted_in (es ++ more exports) ++ made_in (events_of rest)
    all_asserted exports rest =
        ap (λ hs. asserted_in es ++ hs) (made_in-append b.events (events_of rest))
        ∙ sym (append_assoc (asserted_in es) (made_in b.events) (made_in (events_of rest)))
        ∙ ap (λ hs. hs ++ made_in (events_of rest)) (sym (asserted_more exports))

    log_taken : (exports : ExportTable) (rest : List Batch) → IsLog s.world.table.next (asserted_in es) (b ∷ rest)
        → IsLog s.world.table.next (asserted_in (es ++ more exports)) rest
    log_taken exports rest log = (
      subst (IsStrictlySortedBy nat_cmp) (all_asserted exports rest) log.0,
      subst (WereDrawn s.world.table.next) (all_asserted exports rest) log.1,
    )

    before_taking : (rest : List Batch) (x : Actor) → find_actor own s.world.table.actors ≡ Some x
        → x.inbox ≡ b ∷ rest → IsLog s.world.table.next (asserted_in es) (b ∷ rest)
    before_taking rest x found is = subst (IsLog s.world.table.next (asserted_in es)) is (sent.live x found)

    exporting_sent : (ports : PortsState) → AreSent k (es ++ more (exports_after k b ports)) (exporting k b ports taking)
    exporting_sent ports =
        let now : ExportTable = exports_after k b ports in
        let x : HasFirst own s.world.table b = has_first own s.world.table b first in
        let log : IsLog s.world.table.next (asserted_in (es ++ more now)) x.rest =
        log_taken now x.rest (before_taking x.rest x.actor x.found x.inbox) in
        record {
          none = λ before. absurd (omega (arith, before, has_come));
          ascend = ascend_before (asserted_in (es ++ more now)) (made_in (events_of x.rest)) log.0;
          drawn = subst (WereDrawn s.world.table.next) (sym (flat_map-append _ es (more now)))
              (all_append (λ h. h < s.world.table.next) (told_in es) (told_in (more now)) sent.drawn
              (told_drawn (lived s.world) s.world.table.next now k b.events
              (first_valid (lived s.world) own s.world.table b (table_of s.world valid.world) first)));
          live = λ y is.
              let z = found-popped own s.world.table b y first is in
              log_taken now y.inbox (before_taking y.inbox z.0 z.1 z.2);
        }

    -- it fails, and isn't found any more
    failing_sent : (f : Fault) → AreSent k es (failed k f taking)
    failing_sent f = record {
      none = λ before. sent.none (subst (λ n. n < k) (opened_ended own taking.world) before);
      ascend = sent.ascend;
      drawn = subst (λ n. WereDrawn n (told_in es)) (sym (next_ended own taking.world)) sent.drawn;
      live = λ x is. absurd (ended_not_found own taking.world x is);
    }

    unless_sent : (o : Option Fault) (ports : PortsState)
        → AreSentBy k (does.Turn own) es (told_unless o k ports b taking)
    unless_sent None ports =
        let now : ExportTable = exports_after k b ports in
        subst (λ ds. AreSent k (es ++ ds) (finished [] (exporting k b ports taking)))
        (sym (own_tells k now ports.dialect b))
        (sent_finished k (es ++ more now) [] (exporting k b ports taking) (exporting_sent ports))
    unless_sent (Some f) ports =
        subst (λ ds. AreSent k ds (finished [] (failed k f taking)))
        (sym (ap (λ ds. es ++ ds) (none_by k own (Refused f) refl) ∙ append-nil es))
        (sent_finished k es [] (failed k f taking) (failing_sent f))

    -- it has names
    abbrev ports : PortsState
    ports = (hub.named k since lives).0

    named : ports_of k taking ≡ Some ports
    named =
        ap (λ c. cond c (entry_of k s.connections) None) (live-popped own own s.world.table ∙ lives)
        ∙ (hub.named k since lives).1

    taking_sent : AreSentBy k (does.Turn own) es (tell (own - 16) (ports_of (own - 16) taking) b taking)
    taking_sent =
        subst (λ j. AreSentBy k (does.Turn own) es (tell j (ports_of j taking) b taking)) (omega arith)
        (subst (λ o. AreSentBy k (does.Turn own) es (tell k o b taking)) (sym named)
        (unless_sent (telling_fault k b ports) ports))

  abbrev AreSentAfter : TurnOf → Type 0
  AreSentAfter t = AreSentBy k (does.Turn own) es (after_turn own t.turned (record s { world = t.world }))

  batch_sent : (b : Batch) → first_batch own s.world.table ≡ Some b
      → AreSentAfter (turn_with own b (without_first own s.world))
  batch_sent b first =
      let far : 17 ≤ own = omega (arith, since) in
      let system : is_system own ≡ false = grind (arith, nat_tests, far) in
      rw system (taking_sent b first)

  first_sent : (o : Option Batch) → first_batch own s.world.table ≡ o → AreSentAfter (turn_first own o s.world)
  first_sent None first = sent_nothing k es _ s s (none_by k own Idle refl) (stays_not k s) (omega arith) sent
  first_sent (Some b) first = batch_sent b first

-- ---- a turn

fault_rises : (a : ℕ) (o : Option Fault) (s : State)
    → s.world.table.next ≤ (tell_fault a o s).state.world.table.next
fault_rises a None s = omega arith
fault_rises a (Some f) s = finished_rises [] (record s { faults = without_entry (a - 16) s.faults })

own_turn_sent : (k : ℕ) → 1 ≤ k → (es : List TurnEvent) (s : State) → IsHub [] s → IsValid s → AreSent k es s
    → AreSentBy k (does.Turn (actor_of k)) es (turn_of (actor_of k) s)
own_turn_sent k since es s hub valid sent = by (is_live (actor_of k) s.world.table) refl
  where
    gone : TurnOf
    gone = record { world = s.world; turned = turned.Gone }

    after_this : TurnOf → After
    after_this t = after_turn (actor_of k) t.turned (record s { world = t.world })

    by : (c : Bool) → is_live (actor_of k) s.world.table ≡ c → AreSentBy k (does.Turn (actor_of k)) es
        (after_this (cond c (turn_first (actor_of k) (first_batch (actor_of k) s.world.table) s.world) gone))
    by true lives = first_sent k since es s hub valid sent lives (first_batch (actor_of k) s.world.table) refl
    by false dead =
        let o : Option Fault = fault_for (actor_of k) s in
        sent_nothing k es _ s _ (fault_tells k (actor_of k) o s) (fault_stays k (actor_of k) o s)
        (fault_rises (actor_of k) o s) sent

turn_sent : (k a : ℕ) → 1 ≤ k → (es : List TurnEvent) (s : State) → IsHub [] s → IsValid s
    → s.world.table.next ≤ (turn_of a s).state.world.table.next → AreSent k es s
    → AreSentBy k (does.Turn a) es (turn_of a s)
turn_sent k a since es s hub valid rises sent = elim (one_or_not (actor_of k) a) [
  | inl same ↦
      subst (λ c. AreSentBy k (does.Turn c) es (turn_of c s)) same (own_turn_sent k since es s hub valid sent)
  | inr apart ↦
      sent_nothing k es _ s _ (other_tells k a (turn_of a s).reply apart) (other_turn_stays k a s hub.sound apart)
      rises sent
]

-- ---- a step

bind_stays : (k : ℕ) (c : Bool) (b : Binding) (s : State) → Stays k s (bind_unless c b s).state
bind_stays k true b s = stays_not k s
bind_stays k false b s =
    let t : State = record s { world = binding b s.world } in
    stays_on k s t _
    (world_stays k s (binding b s.world)
    (grows_alike (actor_of k) s.world (binding b s.world) (omega arith) refl refl refl))
    (finished_stays k [] t)

arrive_sent : (k : ℕ) (o : Option Reply) (space : ℕ) (es : List TurnEvent) (s : State) → IsSound [] s.world
    → AreSent k es s → AreSentBy k (does.Arrive space) es (arrive_unless o space s)
arrive_sent k None space es s sound sent =
    subst (λ ds. AreSent k ds (finished [] (opened space s))) (sym (append-nil es))
    (sent_finished k es [] (opened space s) (sent_arrived k space es s sound sent))
arrive_sent k (Some r) space es s sound sent = subst (λ ds. AreSent k ds s) (sym (append-nil es)) sent

done_sent : (k : ℕ) → 1 ≤ k → (e : Step) (es : List TurnEvent) (s : State) → IsHub [] s → IsValid s
    → s.world.table.next ≤ (done s e).state.world.table.next → AreSent k es s → AreSentBy k e es (done s e)
done_sent k since (does.Bind b) es s hub valid rises sent =
    sent_nothing k es [] s _ refl (bind_stays k (is_barred b s) b s) rises sent
done_sent k since (does.Watch x) es s hub valid rises sent =
    sent_nothing k es [] s _ refl (watch_stays k (is_unwatchable x s) x s since refl hub.sound) rises sent
done_sent k since (does.Arrive space) es s hub valid rises sent =
    arrive_sent k (refusal space s) space es s hub.sound sent
done_sent k since (does.Packet j t) es s hub valid rises sent =
    sent_nothing k es [] s _ refl (packet_stays k j (ports_of j s) t s hub.sound.table refl) rises sent
done_sent k since (does.Bad j f) es s hub valid rises sent =
    sent_nothing k es [] s _ refl (bad_stays k j (ports_of j s) f s) rises sent
done_sent k since (does.Close j) es s hub valid rises sent =
    sent_nothing k es [] s _ refl (close_stays k j (ports_of j s) s) rises sent
done_sent k since (does.Turn a) es s hub valid rises sent = turn_sent k a since es s hub valid rises sent
done_sent k since does.Work es s hub valid rises sent =
    sent_nothing k es [] s _ refl (work_stays k (lowest s.world.table) s since hub.sound) rises sent
done_sent k since does.Stop es s hub valid rises sent =
    let t : State = record s { stopped = true } in
    sent_nothing k es [] s _ refl
    (stays_on k s t _ (record { grows = (stays_not k s).grows; names = λ x found. refl }) (finished_stays k [] t))
    rises sent

-- where the numbers are used up nothing is sent
worn_tells : (k : ℕ) (e : Step) → events_by k e Worn ≡ []
worn_tells k (does.Bind b) = refl
worn_tells k (does.Watch x) = refl
worn_tells k (does.Arrive space) = refl
worn_tells k (does.Packet j t) = refl
worn_tells k (does.Bad j f) = refl
worn_tells k (does.Close j) = refl
worn_tells k (does.Turn a) = none_by k a Worn refl
worn_tells k does.Work = refl
worn_tells k does.Stop = refl

step_sent : (k : ℕ) → 1 ≤ k → (e : Step) (es : List TurnEvent) (s : State) → IsHub [] s → IsValid s → AreSent k es s
    → AreSentBy k e es (step s e)
step_sent k since e es s hub valid sent = by (is_worn s e) refl
  where
    by : (c : Bool) → is_worn s e ≡ c → AreSentBy k e es (cond c (unchanged s Worn) (done s e))
    by true worn = sent_nothing k es (events_by k e Worn) s s (worn_tells k e) (stays_not k s) (omega arith) sent
    by false fresh =
        done_sent k since e es s hub valid
        (subst (λ c. s.world.table.next ≤ (cond c (unchanged s Worn) (done s e)).state.world.table.next) fresh
        (handles_rise s (e ∷ []))) sent

-- ---- whole runs

run_sent : (k : ℕ) → 1 ≤ k → (steps : List Step) (es : List TurnEvent) (s : State) → IsHub [] s → IsValid s
    → AreAllowed s steps → AreSent k es s
    → AreSent k (es ++ flat_map events_in (sent_from s k steps)) (run_from s steps)
run_sent k since [] es s hub valid may sent = sent_nothing k es [] s s refl (stays_not k s) (omega arith) sent
run_sent k since (e ∷ steps) es s hub valid may sent =
    let now : List TurnEvent = events_by k e (step s e).reply in
    let t : State = (step s e).state in
    let all : (es ++ now) ++ flat_map events_in (sent_from t k steps)
    ≡ es ++ flat_map events_in (sent_from s k (e ∷ steps)) =
    append_assoc es now (flat_map events_in (sent_from t k steps))
    ∙ ap (λ ds. es ++ ds) (sym (flat_map-append events_in (sent_by k e (step s e).reply) (sent_from t k steps))) in
    subst (λ ds. AreSent k ds (run_from t steps)) all
    (run_sent k since steps (es ++ now) t (step_hub s e may.0 valid hub) (stays_valid.1 s e valid may.0) may.1
    (step_sent k since e es s hub valid sent))

-- no connection is live when all begins
sent_first : (ds : List Definition) (k : ℕ) → 1 ≤ k → IsSound [] (opening ds).world → AreSent k [] (opening ds)
sent_first ds k since sound = record {
  none = λ before. refl;
  ascend = ascend_none;
  drawn = tt;
  live = λ x found.
      let lives : is_live (actor_of k) (opening ds).world.table ≡ true = ap is_some found in
      let low : actor_of k ≤ 16 + 0 = sound.numbers (actor_of k) lives in
      absurd (omega (arith, low, since));
}

connection_sent : (ds : List Definition) (k : ℕ) → 1 ≤ k → (steps : List Step) → AreAllowed (opening ds) steps
    → AreSentOnce (replay ds steps).world.table.next (flat_map events_in (sent_to ds k steps))
connection_sent ds k since steps may =
    let hub = replay_hub ds [] tt in
    let all : AreSent k (flat_map events_in (sent_to ds k steps)) (replay ds steps) =
    run_sent k since steps [] (opening ds) hub (stays_valid.0 ds) may (sent_first ds k since hub.sound) in
    record { ascend = all.ascend; drawn = all.drawn }

-- no connection has number 0
zeroth_sent : (ds : List Definition) (steps : List Step)
    → AreSentOnce (replay ds steps).world.table.next (flat_map events_in (sent_to ds 0 steps))
zeroth_sent ds steps =
    subst (λ ps. AreSentOnce (replay ds steps).world.table.next (flat_map events_in ps))
    (sym (zeroth_unsent (opening ds) steps)) (record { ascend = ascend_none; drawn = tt })

pub sent_once : AssertionsAreSentOnce
sent_once ds zero steps may = zeroth_sent ds steps
sent_once ds (suc k) steps may = connection_sent ds (suc k) (omega arith) steps may
