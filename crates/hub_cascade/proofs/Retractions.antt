-- A turn over retractions ends nobody.
use Rattle.std.proofs.Common.{◌≡◌, ◌≢◌, ℕ, ◌-◌, ◌<◌, ◌≤◌, List, [], ◌∷◌, Bool, true, false, cond, Option, Some, None}
use Rattle.std.proofs.Common.{inl, inr, refl, ap, sym, ◌∙◌, subst, arith, is_some, drop}
use Rattle.std.specs.Prelude.{option_and_then}
use Rattle.std.specs.List.{AllByRecursion, flat_map}
use Rattle.std.specs.Map.{values_of}
use Rattle.std.proofs.lemmas.Bool.Decides.{nat_tests}
use Rattle.ac_table.specs.declared.batches.Batch.{Batch}
use Rattle.ac_table.specs.declared.batches.Event.{Event}
use Rattle.ac_table.specs.declared.batches.Event.TheVariants.{Assert, Retract, Message, Sync}
use Rattle.ac_table.specs.Sums.{both, load_waiting, inbox_of}
use Rattle.ac_table.specs.Tables.{find_actor, is_live, first_batch, popped, lowest}
use Rattle.ac_world.specs.Behaviours.{behaviour_of}
use Rattle.ac_world.specs.Outboxes.{committed}
use Rattle.ac_world.specs.Sums.{load_got}
use Rattle.ac_world.specs.Turns.{After as TurnOf, Turning, begin_turn, all_turned, system_turn, connection_turn}
use Rattle.ac_world.specs.Turns.{turn_first}
use Rattle.ac_world.specs.Worlds.{actor_of, entry_of, is_system, held_by}
use Rattle.ac_world.specs.declared.turns.Turned.TheVariants as turned
use Rattle.rl_ports.specs.Ports.{PortsState}
use Rattle.rl_wire.specs.Crossing.{fault_out}
use Rattle.hub_machine.specs.declared.faults.Fault.{Fault}
use Rattle.hub_machine.specs.State.{State, ports_of}
use Rattle.hub_machine.specs.Endings.{finished}
use Rattle.hub_machine.specs.Machine.{unchanged, told_value, foreign_told, telling_fault, told_unless}
use Rattle.hub_machine.specs.Machine.{tell, fault_for, tell_fault, turn_of, rest, work_by, is_worn, done, overrun_by}
use Rattle.hub_machine.specs.Replays.{replay}
use Rattle.hub_machine.specs.declared.steps.Step.TheVariants.{Turn, Work}
use Rattle.hub_machine.specs.declared.steps.Reply.TheVariants as reply
use Rattle.hub_valid.specs.Lemmas.Lasting.{live_popped}
use Rattle.hub_valid.specs.Lemmas.Lives.{live_committed}
use Rattle.hub_valid.specs.Lemmas.Plans.{GoesOn, goes_on_all_turned}
use Rattle.hub_laws.proofs.Leaving.{one_or_not}
use Rattle.hub_laws.proofs.Opening.{replay_hub}
use Rattle.hub_laws.proofs.Posting.{found-with_inbox_other}
use Rattle.hub_laws.proofs.Presence.{presence}
use Rattle.hub_laws.specs.Presence.{ArePresent}
use Rattle.hub_cascade.specs.Laws.{TakesItsTurn, RetractionsEndNobody}
use Rattle.hub_cascade.specs.Sparing.{SparesAll, IsRetraction, TakesBack, TellsBack, EndsNobody}
use Rattle.hub_cascade.proofs.Ends.{IsAsBefore, over_as_before, unless_named}
use Rattle.hub_cascade.proofs.Fewer.{wants_no_more}
use Rattle.hub_cascade.proofs.Over.{AreWithin, replay_within}
use Rattle.hub_cascade.proofs.Retracting.{IsQuiet, all_quiet}
use Rattle.hub_cascade.proofs.Told.{posted_back}
use Rattle.hub_cascade.proofs.TurnsOut.{nobody_ends, ends_nobody, turn_ends, fault_spares, after_this, less}
use Rattle.hub_cascade.proofs.Uncounted.{posted_waits}

-- ---- a system actor

abbrev turning : ℕ → Batch → State → Turning
turning a b s =
    all_turned (behaviour_of s.world.schema s.world.bindings s.world.watches a) a b.from b.events
    (begin_turn a (less a s))

turning_quiet : (a : ℕ) (b : Batch) (s : State) → TakesBack b → IsQuiet (turning a b s)
turning_quiet a b s back =
    all_quiet (behaviour_of s.world.schema s.world.bindings s.world.watches a) a b.from b.events
    (begin_turn a (less a s)) (wants_no_more s.world.schema s.world.bindings s.world.watches a) back
    (record { spreads = refl; told = tt })

-- s once a system actor has taken its batch
abbrev system_took : ℕ → Batch → State → State
system_took a b s = record s { world = (system_turn a b (less a s)).world }

system_lives : (a : ℕ) (b : Batch) (s : State) → SparesAll s (system_took a b s)
system_lives a b s c =
    let t : Turning = turning a b s in
    let on : GoesOn (popped a s.world.table) t.plan.table =
    goes_on_all_turned (behaviour_of s.world.schema s.world.bindings s.world.watches a) a b.from b.events
    (begin_turn a (less a s)) in
    live_committed c a t.plan ∙ ap (λ xs. is_some (find_actor c xs)) on.actors ∙ live_popped c a s.world.table

others_as_before : (j a : ℕ) (b : Batch) (s : State) → TakesBack b → actor_of j ≢ a → IsAsBefore j s (system_took a b s)
others_as_before j a b s back apart = record {
  live = system_lives a b s (actor_of j);
  names = refl;
  load = ap (both (load_got (values_of (held_by (actor_of j) s.world)))) waits;
}
  where
    t : Turning
    t = turning a b s

    on : GoesOn (popped a s.world.table) t.plan.table
    on =
        goes_on_all_turned (behaviour_of s.world.schema s.world.bindings s.world.watches a) a b.from b.events
        (begin_turn a (less a s))

    waits : load_waiting (inbox_of (find_actor (actor_of j) (committed a t.plan).actors))
        ≡ load_waiting (inbox_of (find_actor (actor_of j) s.world.table.actors))
    waits =
        posted_waits (actor_of j) a t.plan.out t.plan.table (turning_quiet a b s back).told
        ∙ ap (λ xs. load_waiting (inbox_of (find_actor (actor_of j) xs))) on.actors
        ∙ ap (λ o. load_waiting (inbox_of o))
        (found-with_inbox_other a (actor_of j) (drop 1) s.world.table.actors apart)

-- the last watcher has the number that a connection 0 would have
system_ends : (a : ℕ) (b : Batch) (s : State) → a < 17 → entry_of 0 s.connections ≡ None → TakesBack b → AreWithin s
    → EndsNobody a s (finished (turning a b s).spreads (system_took a b s))
system_ends a b s low none back within =
    subst (λ xs. EndsNobody a s (finished xs (system_took a b s))) (sym quiet.spreads)
    (ends_nobody a s (system_took a b s) (record { all = system_lives a b s; told = tells }) still_within)
  where
    still_within : AreWithin (system_took a b s)
    still_within j = elim (one_or_not (actor_of j) a) [
      | inl same ↦
          (let zero_is : 0 ≡ j = omega (arith, low, same) in
          unless_named j (system_took a b s) (ap (λ i. entry_of i s.connections) (sym zero_is) ∙ none))
      | inr apart ↦ over_as_before j s (system_took a b s) (others_as_before j a b s back apart) ∙ within j
    ]

    quiet : IsQuiet (turning a b s)
    quiet = turning_quiet a b s back

    on : GoesOn (popped a s.world.table) (turning a b s).plan.table
    on =
        goes_on_all_turned (behaviour_of s.world.schema s.world.bindings s.world.watches a) a b.from b.events
        (begin_turn a (less a s))

    tells : TellsBack a s (system_took a b s)
    tells c x other found =
        posted_back c a (turning a b s).plan.out (turning a b s).plan.table x quiet.told
        (ap (find_actor c) on.actors
        ∙ found-with_inbox_other a c (drop 1) s.world.table.actors other ∙ found)

-- ---- a connection, which exports nothing by them

nothing_told : (k : ℕ) (es : List Event) → AllByRecursion IsRetraction es
    → flat_map (λ e. foreign_told k (told_value e)) es ≡ []
nothing_told k [] all = refl
nothing_told k (e ∷ es) all = one e all.0 (nothing_told k es all.1)
  where
    one : (e : Event) → IsRetraction e → flat_map (λ e. foreign_told k (told_value e)) es ≡ []
        → flat_map (λ e. foreign_told k (told_value e)) (e ∷ es) ≡ []
    one (Assert h entity v) is rest = absurd is
    one (Retract h entity) is rest = rest
    one (Message entity v) is rest = absurd is
    one (Sync entity peer) is rest = absurd is

none_refused : (j : ℕ) (b : Batch) (p : PortsState) → TakesBack b → telling_fault j b p ≡ None
none_refused j b p back =
    ap (λ rs. option_and_then overrun_by (fault_out p.exports rs)) (nothing_told j b.events back)

-- ---- no turn over them is refused

unless_unrefused : (o : Option Fault) (j : ℕ) (p : PortsState) (b : Batch) (u : State) (f : Fault) → o ≡ None
    → (told_unless o j p b u).reply ≢ reply.Refused f
unless_unrefused None j p b u f none = λ is. cc
unless_unrefused (Some g) j p b u f none = absurd cc

tell_unrefused : (j : ℕ) (o : Option PortsState) (b : Batch) (u : State) (f : Fault) → TakesBack b
    → (tell j o b u).reply ≢ reply.Refused f
tell_unrefused j None b u f back = λ is. cc
tell_unrefused j (Some p) b u f back =
    unless_unrefused (telling_fault j b p) j p b u f (none_refused j b p back)

fault_unrefused : (a : ℕ) (o : Option Fault) (s : State) (f : Fault) → (tell_fault a o s).reply ≢ reply.Refused f
fault_unrefused a None s f = λ is. cc
fault_unrefused a (Some g) s f = λ is. cc

turn_unrefused : (a : ℕ) (b : Batch) (s : State) (f : Fault) → first_batch a s.world.table ≡ Some b → TakesBack b
    → (turn_of a s).reply ≢ reply.Refused f
turn_unrefused a b s f first back =
    subst (λ o. (after_this a s (cond (is_live a s.world.table) (turn_first a o s.world) none)).reply ≢ reply.Refused f)
    (sym first) (by (is_live a s.world.table))
  where
    none : TurnOf
    none = record { world = s.world; turned = turned.Gone }

    kinds : (c : Bool)
        → (after_this a s (cond c (system_turn a b (less a s)) (connection_turn a b (less a s)))).reply
        ≢ reply.Refused f
    kinds true = λ is. cc
    kinds false =
        let u : State = record s { world = (connection_turn a b (less a s)).world } in
        tell_unrefused (a - 16) (ports_of (a - 16) u) b u f back

    by : (c : Bool) → (after_this a s (cond c (turn_first a (Some b) s.world) none)).reply ≢ reply.Refused f
    by true = kinds (is_system a)
    by false = fault_unrefused a (fault_for a s) s f

-- ---- whoever it is

connection_spares : (k : ℕ) (b : Batch) (s : State) → 1 ≤ k → ArePresent s → AreWithin s
    → first_batch (actor_of k) s.world.table ≡ Some b → TakesBack b
    → EndsNobody (actor_of k) s (turn_of (actor_of k) s).state
connection_spares k b s come here within first back =
    let most = turn_ends k s come here within in
    record { all = most.itself (λ f. turn_unrefused (actor_of k) b s f first back); told = most.told }

system_spares : (a : ℕ) (b : Batch) (s : State) → entry_of 0 s.connections ≡ None → AreWithin s → is_system a ≡ true
    → first_batch a s.world.table ≡ Some b → TakesBack b → EndsNobody a s (turn_of a s).state
system_spares a b s zeroth within system first back =
    subst (λ o. EndsNobody a s (after_this a s (cond (is_live a s.world.table) (turn_first a o s.world) none)).state)
    (sym first) (by (is_live a s.world.table))
  where
    none : TurnOf
    none = record { world = s.world; turned = turned.Gone }

    low : a < 17
    low = grind (arith, nat_tests, system)

    kinds : (c : Bool) → c ≡ true
        → EndsNobody a s (after_this a s (cond c (system_turn a b (less a s)) (connection_turn a b (less a s)))).state
    kinds true is = system_ends a b s low zeroth back within
    kinds false is = absurd cc

    by : (c : Bool) → EndsNobody a s (after_this a s (cond c (turn_first a (Some b) s.world) none)).state
    by true = kinds (is_system a) system
    by false = fault_spares a a (fault_for a s) s within

turn_spares : (a : ℕ) (b : Batch) (s : State) → ArePresent s → entry_of 0 s.connections ≡ None → AreWithin s
    → first_batch a s.world.table ≡ Some b → TakesBack b → EndsNobody a s (turn_of a s).state
turn_spares a b s here zeroth within first back = by (is_system a) refl
  where
    by : (c : Bool) → is_system a ≡ c → EndsNobody a s (turn_of a s).state
    by true system = system_spares a b s zeroth within system first back
    by false far =
        let high : 17 ≤ a = grind (arith, nat_tests, far) in
        let its : actor_of (a - 16) ≡ a = omega (arith, high) in
        subst (λ i. EndsNobody i s (turn_of i s).state) its
        (connection_spares (a - 16) b s (omega (arith, high)) here within
        (ap (λ i. first_batch i s.world.table) its ∙ first) back)

-- ---- the steps

pub back_ends_nobody : (a : ℕ) (b : Batch) (s : State) → ArePresent s → entry_of 0 s.connections ≡ None
    → AreWithin s → first_batch a s.world.table ≡ Some b → TakesBack b → TakesItsTurn a s
back_ends_nobody a b s here zeroth within first back = record {
  turn = turning_by (is_worn s (Turn a));
  work = λ is. working_by is (is_worn s Work);
}
  where
    all : EndsNobody a s (turn_of a s).state
    all = turn_spares a b s here zeroth within first back

    rest_spares : (c : Bool) → EndsNobody a s (cond c (unchanged s reply.Halted) (unchanged s reply.Idle)).state
    rest_spares true = nobody_ends a s
    rest_spares false = nobody_ends a s

    some_work : (c : Bool) → EndsNobody a s (cond c (turn_of a s) (rest s)).state
    some_work true = all
    some_work false = rest_spares s.stopped

    turning_by : (c : Bool) → EndsNobody a s (cond c (unchanged s reply.Worn) (done s (Turn a))).state
    turning_by true = nobody_ends a s
    turning_by false = all

    working_by : lowest s.world.table ≡ Some a → (c : Bool)
        → EndsNobody a s (cond c (unchanged s reply.Worn) (done s Work)).state
    working_by is true = nobody_ends a s
    working_by is false = subst (λ o. EndsNobody a s (work_by o s).state) (sym is) (some_work (is_system a))

pub retractions_end_nobody : RetractionsEndNobody
retractions_end_nobody ds steps may a b first back =
    back_ends_nobody a b (replay ds steps) (presence ds steps may) (replay_hub ds steps may).first
    (replay_within ds steps) first back
