-- In each run, what a live connection was sent means what was told.
use Rattle.std.proofs.Common.{◌≡◌, ℕ, ◌-◌, ◌<◌, ◌≤◌, ◌==◌, List, [], ◌∷◌, ◌++◌, Bool, true, false, cond, Option}
use Rattle.std.proofs.Common.{Some, None, ◌⊎◌, inl, inr, refl, sym, ap, ◌∙◌, subst, arith, map, append-nil, append_assoc}
use Rattle.std.specs.List.{flat_map}
use Rattle.std.proofs.lemmas.Bool.Decides.{nat_tests}
use Rattle.pv_value.specs.Plain.{Plain}
use Rattle.ps_schema.specs.declared.Definition.{Definition}
use Rattle.ac_table.specs.declared.batches.Batch.{Batch}
use Rattle.ac_table.specs.Tables.{is_live, first_batch, popped}
use Rattle.ac_world.specs.declared.turns.Turned.TheVariants as turned
use Rattle.ac_world.specs.Turns.{After as TurnOf, connection_turn, turn_with, turn_first, system_turn}
use Rattle.ac_world.specs.Worlds.{WorldState, actor_of, entry_of, is_system}
use Rattle.rl_packet.specs.declared.packets.TurnEvent.{TurnEvent}
use Rattle.rl_packet.specs.Holding.{events_in}
use Rattle.rl_ports.specs.Ports.{PortsState, ExportTable, swept}
use Rattle.rl_wire.specs.Lemmas.Exporting.{are_exported}
use Rattle.hub_machine.specs.declared.faults.Fault.{Fault}
use Rattle.hub_machine.specs.State.{State, opening, ports_of}
use Rattle.hub_machine.specs.Machine.{unchanged, foreign_to, sent_event, telling_fault, exports_after, told_unless}
use Rattle.hub_machine.specs.Machine.{all_named}
use Rattle.hub_machine.specs.Machine.{tell, fault_for, after_turn, turn_of, is_worn, step}
use Rattle.hub_machine.specs.Replays.{replay, packet_in, sent_by, sent_to}
use Rattle.hub_machine.specs.Lemmas.Naming.{named_exports}
use Rattle.hub_machine.specs.Lemmas.ReplayLaws.{replay-more, sent_to-more}
use Rattle.hub_machine.specs.declared.steps.Step.{Step}
use Rattle.hub_machine.specs.declared.steps.Step.TheVariants.{Bind, Watch, Arrive, Packet, Bad, Close, Turn, Work, Stop}
use Rattle.hub_machine.specs.declared.steps.Reply.{Reply}
use Rattle.hub_machine.specs.declared.steps.Reply.TheVariants.{Worn}
use Rattle.hub_valid.specs.Validity.{lived, IsValid, IsValidBatch}
use Rattle.hub_valid.specs.Lemmas.Admitted.{names_of}
use Rattle.hub_valid.specs.Lemmas.Hubs.{stays_valid}
use Rattle.hub_valid.specs.Lemmas.Lasting.{live_popped}
use Rattle.hub_valid.specs.Lemmas.Lists.{flat_map_append}
use Rattle.hub_valid.specs.Lemmas.WorldTables.{first_valid}
use Rattle.hub_valid.specs.Lemmas.Worlds.{table_of}
use Rattle.hub_laws.specs.Laws.{AreAllowed}
use Rattle.hub_laws.proofs.Sending.{fault_tells}
use Rattle.hub_laws.specs.Standing.{events_of}
use Rattle.hub_authority.specs.Laws.{Names}
use Rattle.hub_authority.specs.Meant.{AreSentAs}
use Rattle.hub_authority.specs.Named.{batch_sent, told_by, told_from, first_by, told_names, AreAmongGiven}
use Rattle.hub_authority.proofs.Exporting.{Tells, WasTold, CameWith, IsTold, told_more, one_more}
use Rattle.hub_authority.proofs.Meaning.{events_mean, more_given, still_given, events_later, sent_append}
use Rattle.hub_authority.proofs.Runs.{counts_from_one, at_first}
use Rattle.hub_authority.proofs.Telling.{step_tells}

-- ---- what a step sends

-- the events that a reply sends
abbrev pub events_by : Reply → List TurnEvent
events_by r = flat_map events_in (packet_in r)

-- who isn't live is sent no event
dead_turn : (k : ℕ) (s : State) → is_live (actor_of k) s.world.table ≡ false
    → flat_map events_in (sent_by k (Turn (actor_of k)) (turn_of (actor_of k) s).reply) ≡ []
dead_turn k s dead = by (is_live (actor_of k) s.world.table) dead
  where
    none : TurnOf
    none = record { world = s.world; turned = turned.Gone }

    by : (c : Bool) → c ≡ false → flat_map events_in (sent_by k (Turn (actor_of k))
        (after_turn (actor_of k) (cond c (turn_first (actor_of k) (first_batch (actor_of k) s.world.table) s.world)
        none).turned
        (record s {
          world = (cond c (turn_first (actor_of k) (first_batch (actor_of k) s.world.table) s.world)
              none).world;
        })).reply)
        ≡ []
    by true dead = absurd cc
    by false dead = fault_tells k (actor_of k) (fault_for (actor_of k) s) s

dead_step : (k : ℕ) (s : State) (e : Step) → is_live (actor_of k) s.world.table ≡ false
    → flat_map events_in (sent_by k e (step s e).reply) ≡ []
dead_step k s (Bind b) dead = refl
dead_step k s (Watch x) dead = refl
dead_step k s (Arrive space) dead = refl
dead_step k s (Packet j t) dead = refl
dead_step k s (Bad j f) dead = refl
dead_step k s (Close j) dead = refl
dead_step k s (Turn a) dead = by (a == actor_of k) refl
  where
    own : (b : Bool) → flat_map events_in (sent_by k (Turn (actor_of k))
        (cond b (unchanged s Worn) (turn_of (actor_of k) s)).reply) ≡ []
    own true = worn (actor_of k == actor_of k)
      where
        worn : (c : Bool) → flat_map events_in (cond c (packet_in Worn) []) ≡ []
        worn true = refl
        worn false = refl
    own false = dead_turn k s dead

    by : (c : Bool) → (a == actor_of k) ≡ c → flat_map events_in (sent_by k (Turn a) (step s (Turn a)).reply) ≡ []
    by true is =
        let same : actor_of k ≡ a = grind (arith, nat_tests, is) in
        subst (λ n. flat_map events_in (sent_by k (Turn n) (step s (Turn n)).reply) ≡ []) same
        (own (is_worn s (Turn (actor_of k))))
    by false other = ap (λ c. flat_map events_in (cond c (packet_in (step s (Turn a)).reply) [])) other
dead_step k s Work dead = refl
dead_step k s Stop dead = refl

-- What connection k, which names this, is sent by a reply to the turn that takes this batch means what it tells, by the
-- numbers that were given and those that are.
abbrev Sends : ℕ → List Plain → PortsState → Option Batch → Reply → Type 0
Sends k given ports o r =
    (more : List Plain) × AreAmongGiven (given ++ more) (told_names k (batch_sent o r) (names_of ports)).exports
    × AreSentAs (given ++ more) k (events_of (batch_sent o r)) (events_by r)

abbrev SendsNothing : ℕ → List Plain → PortsState → Type 0
SendsNothing k given ports =
    (more : List Plain) × AreAmongGiven (given ++ more) ports.exports × AreSentAs (given ++ more) k [] []

module _ (k : ℕ) (s : State) (valid : IsValid s) (ports : PortsState) (named : ports_of k s ≡ Some ports)
    (given : List Plain) (among : AreAmongGiven given ports.exports)
  where
    abbrev own : ℕ
    own = actor_of k

    nothing : SendsNothing k given ports
    nothing = ([], subst (λ g. AreAmongGiven g ports.exports) (sym (append-nil given)) among, tt)

    sends_worn : (o : Option Batch) → Sends k given ports o Worn
    sends_worn None = nothing
    sends_worn (Some b) = nothing

    sends_batch : (b : Batch) → first_batch own s.world.table ≡ Some b → (o : Option Fault) (t : State)
        → Sends k given ports (Some b) (told_unless o k ports b t).reply
    sends_batch b first (Some f) t = nothing
    sends_batch b first None t = (grown.0, left, sent)
      where
        now : ExportTable
        now = exports_after k b ports

        grown : (more : List Plain) × AreAmongGiven (given ++ more) now
        grown = more_given ports.exports (foreign_to k b) given among

        all : List Plain
        all = given ++ grown.0

        told : PortsState
        told = all_named k b.events (names_of ports)

        left : AreAmongGiven all (swept told).exports
        left =
            still_given told all
            (subst (λ x. AreAmongGiven all x) (sym (named_exports k b.events (names_of ports))) grown.1)

        fits : IsValidBatch (lived s.world) s.world.table.next b
        fits = first_valid (lived s.world) own s.world.table b (table_of s.world valid.world) first

        means : AreSentAs all k b.events (map (sent_event now k) b.events)
        means =
            events_mean (lived s.world) s.world.table.next k all now b.events grown.1.in_force fits
            (are_exported ports.exports (foreign_to k b))

        sent : AreSentAs all k (b.events ++ []) (map (sent_event now k) b.events ++ [])
        sent =
            subst (λ es. AreSentAs all k es (map (sent_event now k) b.events ++ [])) (sym (append-nil b.events))
            (subst (λ ts. AreSentAs all k b.events ts) (sym (append-nil (map (sent_event now k) b.events))) means)

    sends_told : (b : Batch) → first_batch own s.world.table ≡ Some b → (t : State) → ports_of k t ≡ Some ports
        → Sends k given ports (Some b) (tell (own - 16) (ports_of (own - 16) t) b t).reply
    sends_told b first t is =
        subst (λ j. Sends k given ports (Some b) (tell j (ports_of j t) b t).reply) (omega arith)
        (subst (λ o. Sends k given ports (Some b) (tell k o b t).reply) (sym is)
        (sends_batch b first (telling_fault k b ports) t))

    abbrev SendsAfter : Option Batch → TurnOf → Type 0
    SendsAfter o t = Sends k given ports o (after_turn own t.turned (record s { world = t.world })).reply

    sends_with : (b : Batch) → first_batch own s.world.table ≡ Some b
        → SendsAfter (Some b) (turn_with own b (record s.world { table = popped own s.world.table }))
    sends_with b first = by (is_system own)
      where
        w : WorldState
        w = record s.world { table = popped own s.world.table }

        taken : State
        taken = record s { world = (connection_turn own b w).world }

        still : ports_of k taken ≡ Some ports
        still = ap (λ c. cond c (entry_of k s.connections) None) (live_popped own own s.world.table) ∙ named

        by : (c : Bool) → SendsAfter (Some b) (cond c (system_turn own b w) (connection_turn own b w))
        by true = nothing
        by false = sends_told b first taken still

    sends_turn : Sends k given ports (first_batch own s.world.table) (turn_of own s).reply
    sends_turn = by (is_live own s.world.table) refl (first_batch own s.world.table) refl
      where
        none : TurnOf
        none = record { world = s.world; turned = turned.Gone }

        dead : (c : Bool) → c ≡ false → cond c (entry_of k s.connections) None ≡ Some ports → ⊥
        dead true d is = cc
        dead false d is = cc

        by : (c : Bool) → is_live own s.world.table ≡ c → (o : Option Batch) → first_batch own s.world.table ≡ o
            → SendsAfter o (cond c (turn_first own o s.world) none)
        by false is o first = absurd (dead (is_live own s.world.table) is named)
        by true is None first = nothing
        by true is (Some b) first = sends_with b first

    sends_own : Sends k given ports (first_batch own s.world.table) (step s (Turn own)).reply
    sends_own = by (is_worn s (Turn own))
      where
        by : (c : Bool) → Sends k given ports (first_batch own s.world.table)
            (cond c (unchanged s Worn) (turn_of own s)).reply
        by true = sends_worn (first_batch own s.world.table)
        by false = sends_turn

    -- what a step sends means what it tells
    step_sends : (e : Step) → (more : List Plain)
        × AreAmongGiven (given ++ more) (told_names k (told_by k s e) (names_of ports)).exports
        × AreSentAs (given ++ more) k (events_of (told_by k s e)) (flat_map events_in (sent_by k e (step s e).reply))
    step_sends (Bind b) = nothing
    step_sends (Watch x) = nothing
    step_sends (Arrive space) = nothing
    step_sends (Packet j t) = nothing
    step_sends (Bad j f) = nothing
    step_sends (Close j) = nothing
    step_sends (Turn a) = by (a == own) refl
      where
        SendsWhere : Bool → ℕ → Type 0
        SendsWhere c n =
            (more : List Plain)
            × AreAmongGiven (given ++ more)
            (told_names k (cond c (batch_sent (first_batch n s.world.table) (step s (Turn n)).reply) [])
            (names_of ports)).exports
            × AreSentAs (given ++ more) k
            (events_of (cond c (batch_sent (first_batch n s.world.table) (step s (Turn n)).reply) []))
            (flat_map events_in (cond c (packet_in (step s (Turn n)).reply) []))

        by : (c : Bool) → (a == own) ≡ c → SendsWhere (a == own) a
        by true is =
            let same : own ≡ a = grind (arith, nat_tests, is) in
            subst (λ c. SendsWhere c a) (sym is) (subst (SendsWhere true) same sends_own)
        by false is = subst (λ c. SendsWhere c a) (sym is) nothing
    step_sends Work = nothing
    step_sends Stop = nothing

-- ---- all steps

record IsMeant (ds : List Definition) (k : ℕ) (es : List Step) (s : State) : Type 0 where
  unsent : s.world.opened < k → flat_map events_in (sent_to ds k es) ≡ []
  names : (p : PortsState) → ports_of k s ≡ Some p
      → (given : List Plain) × AreAmongGiven given p.exports
      × AreSentAs given k (events_of (told_from k (opening ds) es)) (flat_map events_in (sent_to ds k es))

sent_more : (ds : List Definition) (k : ℕ) (es : List Step) (e : Step)
    → flat_map events_in (sent_to ds k (es ++ e ∷ []))
    ≡ flat_map events_in (sent_to ds k es) ++ flat_map events_in (sent_by k e (step (replay ds es) e).reply)
sent_more ds k es e =
    ap (flat_map events_in) (sent_to-more ds k es e) ∙ flat_map_append events_in (sent_to ds k es) _

told_events_more : (ds : List Definition) (k : ℕ) (es : List Step) (e : Step)
    → events_of (told_from k (opening ds) (es ++ e ∷ []))
    ≡ events_of (told_from k (opening ds) es) ++ events_of (told_by k (replay ds es) e)
told_events_more ds k es e =
    ap events_of (told_more k (opening ds) es e)
    ∙ flat_map_append (λ (b : Batch). b.events) (told_from k (opening ds) es) (told_by k (replay ds es) e)

meant_more : (ds : List Definition) (k : ℕ) (es : List Step) (e : Step) → IsValid (replay ds es)
    → IsTold ds k es (replay ds es)
    → IsMeant ds k es (replay ds es)
    → Tells k (replay ds es) (step (replay ds es) e).state (told_by k (replay ds es) e) (first_by k (replay ds es) e)
    → IsMeant ds k (es ++ e ∷ []) (step (replay ds es) e).state
meant_more ds k es e valid told is tells = record {
  unsent = λ l.
      let old = is.unsent (before l) in
      let new = dead_step k s e (told.unborn (before l)) in
      sent_more ds k es e ∙ (λ i. old i ++ new i);
  names = λ p there. by p (tells.named p there);
}
  where
    s : State
    s = replay ds es

    before : (step s e).state.world.opened < k → s.world.opened < k
    before l = omega (arith, l, tells.opened)

    old_told : List Batch
    old_told = told_from k (opening ds) es

    old_sent : List TurnEvent
    old_sent = flat_map events_in (sent_to ds k es)

    new_sent : List TurnEvent
    new_sent = flat_map events_in (sent_by k e (step s e).reply)

    both : (given : List Plain)
        → AreSentAs given k (events_of old_told ++ events_of (told_by k s e)) (old_sent ++ new_sent)
        → AreSentAs given k (events_of (told_from k (opening ds) (es ++ e ∷ [])))
        (flat_map events_in (sent_to ds k (es ++ e ∷ [])))
    both given all =
        subst (λ bs. AreSentAs given k bs (flat_map events_in (sent_to ds k (es ++ e ∷ []))))
        (sym (told_events_more ds k es e))
        (subst (λ ts. AreSentAs given k (events_of old_told ++ events_of (told_by k s e)) ts)
        (sym (sent_more ds k es e)) all)

    by : (p : PortsState) → WasTold k s (told_by k s e) p ⊎ CameWith k s (told_by k s e) (first_by k s e) p
        → (given : List Plain) × AreAmongGiven given p.exports
        × AreSentAs given k (events_of (told_from k (opening ds) (es ++ e ∷ [])))
        (flat_map events_in (sent_to ds k (es ++ e ∷ [])))
    by p (inl w) =
        let old = is.names w.before w.there in
        let new = step_sends k s valid w.before w.there old.0 old.1 e in
        let all : List Plain = old.0 ++ new.0 in (
          all,
          subst (λ (q : PortsState). AreAmongGiven all q.exports) (sym w.names) new.1,
          both all
              (sent_append all k (events_of old_told) (events_of (told_by k s e)) old_sent new_sent
              (events_later old.0 new.0 k (events_of old_told) old_sent old.2) new.2),
        )
    by p (inr c) =
        let later : s.world.opened < k = omega (arith, c.next) in
        let given : List Plain = c.object ∷ [] in
        let none : events_of old_told ++ events_of (told_by k s e) ≡ [] =
        (λ i. events_of (told.told later i) ++ events_of (c.untold i)) in
        let silent : old_sent ++ new_sent ≡ [] =
        (λ i. is.unsent later i ++ dead_step k s e (told.unborn later) i) in (
          given,
          subst (λ (q : PortsState). AreAmongGiven given q.exports) (sym c.names)
              (record { next = refl; in_force = (refl, tt) }),
          both given
              (subst (λ bs. AreSentAs given k bs (old_sent ++ new_sent)) (sym none)
              (subst (λ ts. AreSentAs given k [] ts) (sym silent) tt)),
        )

-- the steps that are still to come, after those that were
all_meant : (ds : List Definition) (k : ℕ) (before later : List Step) → 1 ≤ k → AreAllowed (replay ds before) later
    → IsValid (replay ds before)
    → IsTold ds k before (replay ds before) → IsMeant ds k before (replay ds before)
    → IsMeant ds k (before ++ later) (replay ds (before ++ later))
all_meant ds k before [] one may valid told is = subst (λ es. IsMeant ds k es (replay ds es)) (sym (append-nil before)) is
all_meant ds k before (e ∷ es) one may valid told is =
    let tells = step_tells k (replay ds before) e one in
    let next : (step (replay ds before) e).state ≡ replay ds (before ++ e ∷ []) = sym (replay-more ds before e) in
    subst (λ all. IsMeant ds k all (replay ds all)) (append_assoc before (e ∷ []) es)
    (all_meant ds k (before ++ e ∷ []) es one
    (subst (λ t. AreAllowed t es) next may.1)
    (subst IsValid next (stays_valid.1 (replay ds before) e valid may.0))
    (subst (IsTold ds k (before ++ e ∷ [])) next (one_more ds k before e told tells))
    (subst (IsMeant ds k (before ++ e ∷ [])) next (meant_more ds k before e valid told is tells)))

none_named : (b : Bool) (p : PortsState) → cond b None None ≡ Some p → ⊥
none_named true p is = cc
none_named false p is = cc

pub names_mean : Names
names_mean ds k steps ports may there =
    (all_meant ds k [] steps (counts_from_one ds k steps ports there) may (stays_valid.0 ds) (at_first ds k)
    (record {
      unsent = λ l. refl;
      names = λ p is. absurd (none_named (is_live (actor_of k) (opening ds).world.table) p is);
    })).names ports there
