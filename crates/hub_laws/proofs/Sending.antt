-- What a live connection was sent is what its actor took, and what it holds by it is what it has got.
use Rattle.std.proofs.Common.{◌≡◌, ◌≢◌, ℕ, ◌+◌, ◌-◌, ◌<◌, ◌≤◌, ◌==◌, List, [], ◌∷◌, ◌++◌, Bool, true, false, cond, map}
use Rattle.std.proofs.Common.{Option, Some, None, is_some, inl, inr, refl, sym, ap, ◌∙◌, subst, arith, append-nil}
use Rattle.std.proofs.Common.{append_assoc, suc, zero}
use Rattle.std.specs.Prelude.{unwrap_or}
use Rattle.std.specs.List.{flat_map, AllByRecursion}
use Rattle.std.specs.List.Sorted.{IsStrictlySortedBy}
use Rattle.std.specs.Map.{keys_of}
use Rattle.std.specs.Ordering.{nat_cmp}
use Rattle.std.proofs.lemmas.Bool.Decides.{nat_tests}
use Rattle.std.proofs.lemmas.Grind.{flat_map-append}
use Rattle.gk_sturdy.specs.declared.bound.Binding.{Binding}
use Rattle.ps_schema.specs.declared.Definition.{Definition}
use Rattle.ac_table.specs.declared.batches.Event.{Event}
use Rattle.ac_table.specs.declared.batches.Batch.{Batch}
use Rattle.ac_table.specs.Tables.{Actor, find_actor, is_live, lowest, first_batch}
use Rattle.ac_world.specs.declared.turns.Turned.TheVariants as turned
use Rattle.ac_world.specs.Turns.{After as TurnOf, deliver, turn_with, turn_first}
use Rattle.ac_world.specs.Worlds.{WorldState, held_by, entry_of, is_system, actor_of, all_delivered, arrived, binding}
use Rattle.ac_world.specs.declared.held.Held.{Held}
use Rattle.ac_world.specs.Lemmas.Entries.{put_found, ascend_none}
use Rattle.rl_packet.specs.Holding.{events_in, all_kept, holdings_in_order, held}
use Rattle.rl_packet.specs.declared.packets.TurnEvent.{TurnEvent}
use Rattle.rl_packet.specs.declared.packets.Dialect.{Dialect}
use Rattle.rl_ports.specs.Ports.{PortsState, ExportTable, ports_to}
use Rattle.hub_machine.specs.Endings.{failed, finished}
use Rattle.hub_machine.specs.Faults.{error_of}
use Rattle.hub_machine.specs.declared.faults.Fault.{Fault}
use Rattle.hub_machine.specs.declared.faults.Fault.TheVariants as fault
use Rattle.hub_machine.specs.Machine.{After, unchanged, foreign_to, sent_event, packet_to, all_named, names_after}
use Rattle.hub_machine.specs.Machine.{bind_unless, is_barred, is_unwatchable}
use Rattle.hub_machine.specs.Machine.{exports_after, exporting, telling_fault, told_unless, tell, opened, refusal}
use Rattle.hub_machine.specs.Machine.{arrive_unless, fault_for, tell_fault, after_turn, turn_of, is_worn, done, step}
use Rattle.hub_machine.specs.Machine.{actor_reference}
use Rattle.hub_machine.specs.Lemmas.Naming.{named_exports}
use Rattle.hub_machine.specs.Replays.{run_from, replay, packet_in, sent_by, sent_from, sent_to}
use Rattle.hub_machine.specs.State.{State, opening, ports_of}
use Rattle.hub_machine.specs.declared.steps.Step.{Step}
use Rattle.hub_machine.specs.declared.steps.Step.TheVariants.{Bind, Watch, Arrive, Packet, Bad, Close, Turn, Work, Stop}
use Rattle.hub_machine.specs.declared.steps.Reply.{Reply}
use Rattle.hub_machine.specs.declared.steps.Reply.TheVariants.{Worn, Gone, Idle, Sent, Refused}
use Rattle.hub_valid.specs.Lemmas.Admitted.{names_of}
use Rattle.hub_laws.specs.Laws.{AreAllowed, Holdings, Notes}
use Rattle.hub_laws.specs.Noting.{note_of}
use Rattle.hub_laws.specs.Scratch.{exports_in, exports_of}
use Rattle.hub_laws.specs.Settled.{holding_of, HasNumbers, AreWhatItGot, HoldsWhatItGot}
use Rattle.hub_laws.proofs.Agreeing.{AllAgree, agrees_later, holdings_same}
use Rattle.hub_laws.proofs.Numbered.{AreNoted, all_noted}
use Rattle.hub_laws.proofs.Released.{swept_agrees, swept_noted}
use Rattle.hub_laws.specs.Standing.{took_all, events_of, at_object}
use Rattle.hub_laws.proofs.Growing.{arrived_grows, grows_alike}
use Rattle.hub_laws.proofs.Holding.{kept_after}
use Rattle.hub_laws.proofs.Joining.{above_is_new, joined_new}
use Rattle.hub_laws.proofs.Kept.{made_in, IsLog, IsSound, IsHub}
use Rattle.hub_laws.proofs.Leaving.{one_or_not}
use Rattle.hub_laws.proofs.Lists.{took_all_append}
use Rattle.hub_laws.proofs.Logs.{connection_took, log_took_all}
use Rattle.hub_laws.proofs.Moving.{made_in-append}
use Rattle.hub_laws.proofs.Posting.{found-popped, live-popped}
use Rattle.hub_laws.proofs.Staying.{names_in, names_kept, Stays, stays_not, stays_on, world_stays, other_stays, ended_not_found}
use Rattle.hub_laws.proofs.Staying.{failing_stays, finished_stays, bad_stays, close_stays, packet_stays, fault_stays}
use Rattle.hub_laws.proofs.Staying.{other_turn_stays, work_stays, watch_stays}
use Rattle.hub_laws.proofs.Steps.{IsNamed, named_of, come_of}
use Rattle.hub_laws.proofs.Turns.{without_first, ascend_before}
use Rattle.hub_laws.proofs.Zeroth.{zeroth_unsent}

-- ---- what a connection is told, by its exports

-- What connection k, which names this, holds by the events es that it was sent is what its actor took since it came, as
-- it goes out by the exports of now. All that it got of others is exported, and noted. The handles that it was told, and
-- then those of its inbox, ascend.
pub record IsTold (k : ℕ) (names : PortsState) (es : List TurnEvent) (w : WorldState) (inbox : List Batch)
    : Type 0 where
  pub taken : List Event
  pub held : held_by (actor_of k) w ≡ took_all at_object taken []
  pub holds : all_kept es ≡ map (holding_of names.exports k) (held_by (actor_of k) w)
  pub noted : AreNoted k names (held_by (actor_of k) w)
  pub log : IsLog w.table.next (made_in taken) inbox

-- what connection k was sent: nothing before it came, and of one that has gone nothing is said
pub record AreSent (k : ℕ) (es : List TurnEvent) (s : State) : Type 0 where
  pub none : s.world.opened < k → es ≡ []
  pub live : (x : Actor) → find_actor (actor_of k) s.world.table.actors ≡ Some x
      → IsTold k (names_kept k s) es s.world x.inbox

sent_alike : (k : ℕ) (es : List TurnEvent) (s t : State) → Stays k s t → AreSent k es s → AreSent k es t
sent_alike k es s t stays sent = record {
  none = λ before. sent.none (omega (arith, stays.grows.opened, before));
  live = λ x is.
      let i = stays.grows.still x is in
      let was = sent.live i.before i.found in
      let names : PortsState = names_kept k s in
      subst (λ p. IsTold k p es t.world x.inbox) (sym (stays.names x is))
      (record {
        taken = was.taken;
        held = i.held ∙ was.held;
        holds = was.holds ∙ ap (map (holding_of names.exports k)) (sym i.held);
        noted = subst (λ got. AreNoted k names got) (sym i.held) was.noted;
        log = i.log (made_in was.taken) was.log;
      });
}

-- and nothing more is sent
sent_nothing : (k : ℕ) (es ds : List TurnEvent) (s t : State) → ds ≡ [] → Stays k s t → AreSent k es s
    → AreSent k (es ++ ds) t
sent_nothing k es ds s t none stays sent =
    subst (λ cs. AreSent k cs t) (sym (ap (λ cs. es ++ cs) none ∙ append-nil es)) (sent_alike k es s t stays sent)

-- ---- a connection comes

told_first : (names : PortsState) (w : WorldState) (x : Actor) → names.notes ≡ []
    → is_live (actor_of (w.opened + 1)) w.table ≡ false → IsSound [] w
    → find_actor (actor_of (w.opened + 1)) (arrived w).table.actors ≡ Some x
    → IsTold (w.opened + 1) names [] (arrived w) x.inbox
told_first names w x no_notes dead sound is =
    let k : ℕ = w.opened + 1 in
    let a = actor_of k in
    let none : held_by a (arrived w) ≡ [] = ap (λ o. unwrap_or o []) (sound.unheld a dead) in
    let new : Some (record { number = a; inbox = [] }) ≡ Some x = sym (joined_new a w.table dead) ∙ is in
    let same : record { number = a; inbox = [] } ≡ x = cc in
    record {
      taken = [];
      held = none;
      holds = sym (ap (map (holding_of names.exports k)) none);
      noted = subst (λ got. AreNoted k names got) (sym none) (record { numbers = tt; notes = no_notes });
      log = subst (λ (y : Actor). IsLog w.table.next [] y.inbox) same (ascend_none, tt);
    }

opened_stays : (k space : ℕ) (s : State) → actor_of k ≢ actor_of (s.world.opened + 1) → Stays k s (opened space s)
opened_stays k space s apart =
    let ports : PortsState = ports_to (actor_reference space) in
    let t : State = record s { world = arrived s.world } in
    stays_on k s t (opened space s) (world_stays k s (arrived s.world) (arrived_grows (actor_of k) s.world apart))
    (other_stays k (s.world.opened + 1) ports t (λ same. apart (ap actor_of same)))

sent_arrived : (k space : ℕ) (es : List TurnEvent) (s : State) → IsSound [] s.world → AreSent k es s
    → AreSent k es (opened space s)
sent_arrived k space es s sound sent = elim (one_or_not (actor_of k) (actor_of (s.world.opened + 1))) [
  | inr apart ↦ sent_alike k es s (opened space s) (opened_stays k space s apart) sent
  | inl same ↦
      (let new : ℕ = s.world.opened + 1 in
      let number : k ≡ new = omega (arith, same) in
      let dead : is_live (actor_of new) s.world.table ≡ false =
      above_is_new (actor_of new) s.world.table (λ b live. omega (arith, sound.numbers b live)) in
      let none : es ≡ [] = sent.none (omega (arith, number)) in
      record {
        none = λ before. absurd (omega (arith, before, number));
        live = λ x is.
            subst (λ j. IsTold j (names_kept j (opened space s)) es (arrived s.world) x.inbox) (sym number)
            (subst (λ ds. IsTold new (names_kept new (opened space s)) ds (arrived s.world) x.inbox) (sym none)
            (told_first (names_kept new (opened space s)) s.world x
            (ap (λ o. (names_in o).notes) (put_found new (ports_to (actor_reference space)) s.connections)) dead sound
            (ap (λ a. find_actor a (arrived s.world).table.actors) (sym same) ∙ is)));
      })
]

-- ---- the replies that send no event

-- an error tells of no event
error_events : (f : Fault) → events_in (error_of f) ≡ []
error_events (fault.BadBytes kind place) = refl
error_events fault.BadPacket = refl
error_events (fault.UnknownOid n) = refl
error_events (fault.HandleInUse h) = refl
error_events (fault.UnknownHandle h) = refl
error_events (fault.Limit which n) = refl
error_events (fault.Overrun which n) = refl
error_events (fault.Spread n) = refl

-- the events that step e sends to connection k, by its reply
abbrev pub events_by : ℕ → Step → Reply → List TurnEvent
events_by k e r = flat_map events_in (sent_by k e r)

-- a reply with no packet, or with one of no events
none_by : (k a : ℕ) (r : Reply) → flat_map events_in (packet_in r) ≡ [] → events_by k (Turn a) r ≡ []
none_by k a r none = by (a == actor_of k)
  where
    by : (c : Bool) → flat_map events_in (cond c (packet_in r) []) ≡ []
    by true = none
    by false = refl

pub fault_tells : (k a : ℕ) (o : Option Fault) (s : State) → events_by k (Turn a) (tell_fault a o s).reply ≡ []
fault_tells k a None s = none_by k a Gone refl
fault_tells k a (Some f) s = none_by k a (Sent (error_of f)) (ap (λ es. es ++ []) (error_events f))

other_tells : (k a : ℕ) (r : Reply) → actor_of k ≢ a → events_by k (Turn a) r ≡ []
other_tells k a r apart = let other : (a == actor_of k) ≡ false = grind (arith, nat_tests, apart) in rw other refl

own_tells : (k : ℕ) (exports : ExportTable) (d : Option Dialect) (b : Batch)
    → events_by k (Turn (actor_of k)) (packet_to exports d k b) ≡ map (sent_event exports k) b.events
own_tells k exports d b =
    let own : (actor_of k == actor_of k) ≡ true = grind (arith, nat_tests) in
    rw own (append-nil (map (sent_event exports k) b.events))

abbrev pub AreSentBy : ℕ → Step → List TurnEvent → After → Type 0
AreSentBy k e es t = AreSent k (es ++ events_by k e t.reply) t.state

-- ---- a connection takes its batch, and is told of it

module _ (k : ℕ) (since : 1 ≤ k) (es : List TurnEvent) (s : State) (hub : IsHub [] s) (sent : AreSent k es s)
    (lives : is_live (actor_of k) s.world.table ≡ true) where
  abbrev own : ℕ
  own = actor_of k

  -- it has come
  has_come : k ≤ s.world.opened
  has_come = let low = hub.sound.numbers own lives in omega (arith, low)

  module _ (b : Batch) (first : first_batch own s.world.table ≡ Some b) where
    abbrev taking : State
    taking = record s { world = deliver own b.events (without_first own s.world) }

    -- with what it tells of exported
    abbrev ports : PortsState
    ports = (hub.named k since lives).0

    abbrev now : ExportTable
    now = exports_after k b ports

    -- before what nothing mentions is released
    abbrev named_all : PortsState
    named_all = all_named k b.events ports

    abbrev after : PortsState
    after = names_after k b ports

    told_more : (inbox : List Batch) → IsTold k (names_of ports) es s.world (b ∷ inbox)
        → IsTold k (names_of after) (es ++ map (sent_event now k) b.events) taking.world inbox
    told_more inbox t = record {
      taken = t.taken ++ b.events;
      held = held ∙ ap (took_all at_object b.events) t.held ∙ sym (took_all_append _ at_object t.taken b.events []);
      holds = kept_after now k es b.events got ascend (t.holds ∙ sym (holdings_same ports.exports now k got agrees))
          ∙ ap (λ x. map (holding_of x k) later) (sym (named_exports k b.events ports))
          ∙ sym (holdings_same named_all.exports after.exports k later (swept_agrees k named_all later told))
          ∙ ap (map (holding_of after.exports k)) (sym held);
      noted = subst (λ ds. AreNoted k (names_of after) ds) (sym held)
          (record { numbers = left.numbers; notes = left.notes });
      log = rw more t.log;
    }
      where
        got : List (ℕ × Held)
        got = held_by own s.world

        later : List (ℕ × Held)
        later = took_all at_object b.events got

        held : held_by own taking.world ≡ later
        held =
            ap (λ o. unwrap_or o []) (put_found own (all_delivered b.events (held_by own s.world)) s.world.held)
            ∙ connection_took b.events (held_by own s.world)

        was : AreNoted k ports got
        was = record { numbers = t.noted.numbers; notes = t.noted.notes }

        agrees : AllAgree ports.exports now k got
        agrees = agrees_later ports.exports (foreign_to k b) k got was.numbers

        told : AreNoted k named_all later
        told = all_noted k b.events ports got was

        left : AreNoted k after later
        left = swept_noted k named_all later told

        more : made_in (t.taken ++ b.events) ++ made_in (events_of inbox)
            ≡ made_in t.taken ++ made_in (events_of (b ∷ inbox))
        more =
            sym (made_in-append (t.taken ++ b.events) (events_of inbox))
            ∙ ap made_in (append_assoc t.taken b.events (events_of inbox))
            ∙ made_in-append t.taken (b.events ++ events_of inbox)

        split : made_in t.taken ++ made_in (events_of (b ∷ inbox))
            ≡ made_in t.taken ++ (made_in b.events ++ made_in (events_of inbox))
        split = ap (λ hs. made_in t.taken ++ hs) (made_in-append b.events (events_of inbox))

        ascend : IsStrictlySortedBy nat_cmp (keys_of got ++ made_in b.events)
        ascend =
            subst (λ (ds : List (ℕ × Held)). IsStrictlySortedBy nat_cmp (keys_of ds ++ made_in b.events)) (sym t.held)
            (ascend_before (keys_of (took_all at_object t.taken []) ++ made_in b.events) (made_in (events_of inbox))
            (subst (IsStrictlySortedBy nat_cmp)
            (sym (append_assoc (keys_of (took_all at_object t.taken [])) (made_in b.events) (made_in (events_of inbox))))
            (log_took_all at_object t.taken [] (made_in b.events ++ made_in (events_of inbox))
            (subst (IsStrictlySortedBy nat_cmp) split t.log.0))))

    exporting_sent : AreSent k (es ++ map (sent_event now k) b.events) (exporting k b ports taking)
    exporting_sent = record {
      none = λ before. absurd (omega (arith, before, has_come));
      live = λ x is.
          let y = found-popped own s.world.table b x first is in
          let was : IsTold k (names_of ports) es s.world (b ∷ x.inbox) =
          subst (λ p. IsTold k p es s.world (b ∷ x.inbox)) (ap names_in (hub.named k since lives).1)
          (subst (λ bs. IsTold k (names_kept k s) es s.world bs) y.2 (sent.live y.0 y.1)) in
          subst (λ p. IsTold k p (es ++ map (sent_event now k) b.events) taking.world x.inbox)
          (sym (ap names_in (put_found k _ s.connections))) (told_more x.inbox was);
    }

    -- it fails, and isn't found any more
    failing_sent : (f : Fault) → AreSent k es (finished [] (failed k f taking))
    failing_sent f =
        let stays = finished_stays k [] (failed k f taking) in
        record {
          none = λ before.
              absurd (let more = (failing_stays k k f taking).grows.opened in omega (arith, before, has_come, more));
          live = λ x is.
              let i = stays.grows.still x is in absurd (ended_not_found own taking.world i.before i.found);
        }

    unless_sent : (o : Option Fault) → AreSentBy k (Turn own) es (told_unless o k ports b taking)
    unless_sent None =
        subst (λ ds. AreSent k (es ++ ds) (finished [] (exporting k b ports taking)))
        (sym (own_tells k now ports.dialect b))
        (sent_alike k (es ++ map (sent_event now k) b.events) (exporting k b ports taking) _
        (finished_stays k [] (exporting k b ports taking)) exporting_sent)
    unless_sent (Some f) =
        subst (λ ds. AreSent k ds (finished [] (failed k f taking)))
        (sym (ap (λ ds. es ++ ds) (none_by k own (Refused f) refl) ∙ append-nil es)) (failing_sent f)

    named : ports_of k taking ≡ Some ports
    named =
        ap (λ c. cond c (entry_of k s.connections) None) (live-popped own own s.world.table ∙ lives)
        ∙ (hub.named k since lives).1

    taking_sent : AreSentBy k (Turn own) es (tell (own - 16) (ports_of (own - 16) taking) b taking)
    taking_sent =
        subst (λ j. AreSentBy k (Turn own) es (tell j (ports_of j taking) b taking)) (omega arith)
        (subst (λ o. AreSentBy k (Turn own) es (tell k o b taking)) (sym named)
        (unless_sent (telling_fault k b ports)))

  abbrev AreSentAfter : TurnOf → Type 0
  AreSentAfter t = AreSentBy k (Turn own) es (after_turn own t.turned (record s { world = t.world }))

  batch_sent : (b : Batch) → first_batch own s.world.table ≡ Some b
      → AreSentAfter (turn_with own b (without_first own s.world))
  batch_sent b first =
      let far : 17 ≤ own = omega (arith, since) in
      let system : is_system own ≡ false = grind (arith, nat_tests, far) in
      rw system (taking_sent b first)

  first_sent : (o : Option Batch) → first_batch own s.world.table ≡ o → AreSentAfter (turn_first own o s.world)
  first_sent None first = sent_nothing k es _ s s (none_by k own Idle refl) (stays_not k s) sent
  first_sent (Some b) first = batch_sent b first

-- ---- a turn

own_turn_sent : (k : ℕ) → 1 ≤ k → (es : List TurnEvent) (s : State) → IsHub [] s → AreSent k es s
    → AreSentBy k (Turn (actor_of k)) es (turn_of (actor_of k) s)
own_turn_sent k since es s hub sent = by (is_live (actor_of k) s.world.table) refl
  where
    gone : TurnOf
    gone = record { world = s.world; turned = turned.Gone }

    after_this : TurnOf → After
    after_this t = after_turn (actor_of k) t.turned (record s { world = t.world })

    by : (c : Bool) → is_live (actor_of k) s.world.table ≡ c → AreSentBy k (Turn (actor_of k)) es
        (after_this (cond c (turn_first (actor_of k) (first_batch (actor_of k) s.world.table) s.world) gone))
    by true lives = first_sent k since es s hub sent lives (first_batch (actor_of k) s.world.table) refl
    by false dead =
        let o : Option Fault = fault_for (actor_of k) s in
        sent_nothing k es _ s _ (fault_tells k (actor_of k) o s) (fault_stays k (actor_of k) o s) sent

turn_sent : (k a : ℕ) → 1 ≤ k → (es : List TurnEvent) (s : State) → IsHub [] s → AreSent k es s
    → AreSentBy k (Turn a) es (turn_of a s)
turn_sent k a since es s hub sent = elim (one_or_not (actor_of k) a) [
  | inl same ↦ subst (λ c. AreSentBy k (Turn c) es (turn_of c s)) same (own_turn_sent k since es s hub sent)
  | inr apart ↦
      sent_nothing k es _ s _ (other_tells k a (turn_of a s).reply apart) (other_turn_stays k a s hub.sound apart) sent
]

-- ---- a step

arrive_sent : (k : ℕ) (o : Option Reply) (space : ℕ) (es : List TurnEvent) (s : State) → IsSound [] s.world
    → AreSent k es s → AreSent k es (arrive_unless o space s).state
arrive_sent k None space es s sound sent =
    sent_alike k es (opened space s) _ (finished_stays k [] (opened space s)) (sent_arrived k space es s sound sent)
arrive_sent k (Some r) space es s sound sent = sent

bind_sent : (k : ℕ) (c : Bool) (b : Binding) (es : List TurnEvent) (s : State) → AreSent k es s
    → AreSentBy k (Bind b) es (bind_unless c b s)
bind_sent k true b es s sent = sent_nothing k es [] s s refl (stays_not k s) sent
bind_sent k false b es s sent =
    let t : State = record s { world = binding b s.world } in
    sent_nothing k es [] s _ refl
    (stays_on k s t _
    (record {
      grows = grows_alike (actor_of k) s.world (binding b s.world) (omega arith) refl refl refl;
      names = λ x found. refl;
    })
    (finished_stays k [] t))
    sent

done_sent : (k : ℕ) → 1 ≤ k → (e : Step) (es : List TurnEvent) (s : State) → IsHub [] s → AreSent k es s
    → AreSentBy k e es (done s e)
done_sent k since (Bind b) es s hub sent = bind_sent k (is_barred b s) b es s sent
done_sent k since (Watch x) es s hub sent =
    sent_nothing k es [] s _ refl (watch_stays k (is_unwatchable x s) x s since refl hub.sound) sent
done_sent k since (Arrive space) es s hub sent =
    sent_nothing k es [] _ _ refl (stays_not k _) (arrive_sent k (refusal space s) space es s hub.sound sent)
done_sent k since (Packet j ts) es s hub sent =
    sent_nothing k es [] s _ refl (packet_stays k j (ports_of j s) ts s hub.sound.table refl) sent
done_sent k since (Bad j f) es s hub sent = sent_nothing k es [] s _ refl (bad_stays k j (ports_of j s) f s) sent
done_sent k since (Close j) es s hub sent = sent_nothing k es [] s _ refl (close_stays k j (ports_of j s) s) sent
done_sent k since (Turn a) es s hub sent = turn_sent k a since es s hub sent
done_sent k since Work es s hub sent =
    sent_nothing k es [] s _ refl (work_stays k (lowest s.world.table) s since hub.sound) sent
done_sent k since Stop es s hub sent =
    let t : State = record s { stopped = true } in
    sent_nothing k es [] s _ refl
    (stays_on k s t _ (record { grows = (stays_not k s).grows; names = λ x found. refl }) (finished_stays k [] t))
    sent

-- where the numbers are used up nothing is sent
worn_tells : (k : ℕ) (e : Step) → events_by k e Worn ≡ []
worn_tells k (Bind b) = refl
worn_tells k (Watch x) = refl
worn_tells k (Arrive space) = refl
worn_tells k (Packet j ts) = refl
worn_tells k (Bad j f) = refl
worn_tells k (Close j) = refl
worn_tells k (Turn a) = none_by k a Worn refl
worn_tells k Work = refl
worn_tells k Stop = refl

step_sent : (k : ℕ) → 1 ≤ k → (e : Step) (es : List TurnEvent) (s : State) → IsHub [] s → AreSent k es s
    → AreSentBy k e es (step s e)
step_sent k since e es s hub sent = by (is_worn s e)
  where
    by : (c : Bool) → AreSentBy k e es (cond c (unchanged s Worn) (done s e))
    by true = sent_nothing k es (events_by k e Worn) s s (worn_tells k e) (stays_not k s) sent
    by false = done_sent k since e es s hub sent

-- ---- whole runs

-- each replay of allowed steps is a sound hub
abbrev pub HubsFrom : State → Type 0
HubsFrom s = (steps : List Step) → AreAllowed s steps → IsHub [] (run_from s steps)

abbrev pub HubAfter : Type 0
HubAfter = (ds : List Definition) → HubsFrom (opening ds)

run_sent : (k : ℕ) → 1 ≤ k → (steps : List Step) (es : List TurnEvent) (s : State) → HubsFrom s → AreAllowed s steps
    → AreSent k es s → AreSent k (es ++ flat_map events_in (sent_from s k steps)) (run_from s steps)
run_sent k since [] es s hubs allowed sent = sent_nothing k es [] s s refl (stays_not k s) sent
run_sent k since (e ∷ steps) es s hubs allowed sent =
    let now : List TurnEvent = events_by k e (step s e).reply in
    let t : State = (step s e).state in
    let hubs_later : HubsFrom t = λ ds later. hubs (e ∷ ds) (allowed.0, later) in
    let all : (es ++ now) ++ flat_map events_in (sent_from t k steps)
    ≡ es ++ flat_map events_in (sent_from s k (e ∷ steps)) =
    append_assoc es now (flat_map events_in (sent_from t k steps))
    ∙ ap (λ ds. es ++ ds) (sym (flat_map-append events_in (sent_by k e (step s e).reply) (sent_from t k steps))) in
    subst (λ ds. AreSent k ds (run_from t steps)) all
    (run_sent k since steps (es ++ now) t hubs_later allowed.1 (step_sent k since e es s (hubs [] tt) sent))

-- no connection is live when all begins
sent_first : (ds : List Definition) (k : ℕ) → 1 ≤ k → IsSound [] (opening ds).world → AreSent k [] (opening ds)
sent_first ds k since sound = record {
  none = λ before. refl;
  live = λ x found.
      let lives : is_live (actor_of k) (opening ds).world.table ≡ true = ap is_some found in
      let low : actor_of k ≤ 16 + 0 = sound.numbers (actor_of k) lives in
      absurd (omega (arith, low, since));
}

-- what was sent to connection k
after_run : HubAfter → (ds : List Definition) (k : ℕ) → 1 ≤ k → (steps : List Step) → AreAllowed (opening ds) steps
    → AreSent k (flat_map events_in (sent_to ds k steps)) (replay ds steps)
after_run hubs ds k since steps allowed =
    run_sent k since steps [] (opening ds) (hubs ds) allowed (sent_first ds k since (hubs ds [] tt).sound)

exports_named : (o : Option PortsState) → (names_in o).exports ≡ exports_in o
exports_named None = refl
exports_named (Some p) = refl

connection_holds : HubAfter → (ds : List Definition) (k : ℕ) → 1 ≤ k → (steps : List Step) → AreAllowed (opening ds) steps
    → HoldsWhatItGot ds k steps
connection_holds hubs ds k since steps allowed lives = by (find_actor (actor_of k) s.world.table.actors) refl lives
  where
    s : State
    s = replay ds steps

    -- a live connection's exports are those kept for it
    kept_now : (names_kept k s).exports ≡ exports_of k s
    kept_now =
        exports_named (entry_of k s.connections)
        ∙ ap (λ c. exports_in (cond c (entry_of k s.connections) None)) (sym lives)

    by : (o : Option Actor) → find_actor (actor_of k) s.world.table.actors ≡ o → is_some o ≡ true
        → AreWhatItGot (exports_of k s) k (held_by (actor_of k) s.world) (held (sent_to ds k steps))
    by None found live = absurd cc
    by (Some x) found live =
        let t = (after_run hubs ds k since steps allowed).live x found in
        let got = held_by (actor_of k) s.world in (
          ap holdings_in_order (t.holds ∙ ap (λ exports. map (holding_of exports k) got) kept_now),
          subst (λ exports. AllByRecursion (HasNumbers exports k) got) kept_now t.noted.numbers,
        )

-- the actor that connection 0 would have is the system's: nothing was delivered to it, nor was it sent anything
zeroth_holds : HubAfter → (ds : List Definition) (steps : List Step) → AreAllowed (opening ds) steps
    → HoldsWhatItGot ds 0 steps
zeroth_holds hubs ds steps allowed lives =
    let s : State = replay ds steps in
    let none : held_by 16 s.world ≡ [] =
    ap (λ o. unwrap_or o []) ((hubs ds steps allowed).sound.system_unheld 16 (omega arith)) in
    subst (λ got. AreWhatItGot (exports_of 0 s) 0 got (held (sent_to ds 0 steps))) (sym none)
    (ap held (zeroth_unsent (opening ds) steps), tt)

pub holdings_hold : HubAfter → Holdings
holdings_hold hubs ds zero steps allowed = zeroth_holds hubs ds steps allowed
holdings_hold hubs ds (suc k) steps allowed = connection_holds hubs ds (suc k) (omega arith) steps allowed

-- ---- what is noted

pub notes_hold : HubAfter → Notes
notes_hold hubs ds k steps allowed ports is = by (find_actor (actor_of k) s.world.table.actors) refl named.live
  where
    s : State
    s = replay ds steps

    named : IsNamed k ports s
    named = named_of k ports s is

    by : (o : Option Actor) → find_actor (actor_of k) s.world.table.actors ≡ o → is_some o ≡ true
        → ports.notes ≡ map (note_of ports.exports k) (held_by (actor_of k) s.world)
    by None found live = absurd cc
    by (Some x) found live =
        let since : 1 ≤ k = come_of k ports s (hubs ds steps allowed) named in
        let t = (after_run hubs ds k since steps allowed).live x found in
        subst (λ (p : PortsState). p.notes ≡ map (note_of p.exports k) (held_by (actor_of k) s.world))
        (ap names_in named.kept) t.noted.notes
