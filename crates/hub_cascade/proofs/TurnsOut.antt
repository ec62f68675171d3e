-- A connection's turn: it ends at most the connection itself, where too much would be exported.
use Rattle.std.proofs.Common.{◌≡◌, ◌≢◌, ℕ, ◌-◌, ◌≤◌, List, [], Bool, true, false, cond, Option, Some, None, refl, ap}
use Rattle.std.proofs.Common.{sym, ◌∙◌, subst, arith, is_some, inl, inr, drop}
use Rattle.std.specs.Prelude.{nat_lt}
use Rattle.std.proofs.lemmas.Bool.Decides.{nat_tests}
use Rattle.ac_table.specs.declared.batches.Batch.{Batch}
use Rattle.ac_table.specs.declared.loads.Load.{Load}
use Rattle.ac_table.specs.Sums.{top, top_load}
use Rattle.ac_table.specs.Tables.{Actor, find_actor, is_live, first_batch, popped}
use Rattle.ac_world.specs.declared.turns.Turned.TheVariants as turned
use Rattle.ac_world.specs.Sums.{deliveries}
use Rattle.ac_world.specs.Turns.{After as TurnOf, turn_first, system_turn, connection_turn}
use Rattle.ac_world.specs.Worlds.{WorldState, actor_of, entry_of, with_entry, without_entry, is_system}
use Rattle.ac_world.specs.Lemmas.Entries.{put_other}
use Rattle.rl_ports.specs.Ports.{PortsState}
use Rattle.hub_machine.specs.Limits.{most_deliveries, most_deliveries_weight}
use Rattle.hub_machine.specs.declared.faults.Fault.{Fault}
use Rattle.hub_machine.specs.State.{State, ports_of}
use Rattle.hub_machine.specs.Endings.{failed, finished, overrun_by, overrun_of}
use Rattle.hub_machine.specs.Machine.{After, unchanged, telling_fault, names_after, exporting}
use Rattle.hub_machine.specs.Machine.{told_unless, tell, fault_for, tell_fault, after_turn, turn_of, is_worn, done, step}
use Rattle.hub_machine.specs.Replays.{replay}
use Rattle.hub_machine.specs.declared.steps.Step.TheVariants.{Turn}
use Rattle.hub_machine.specs.declared.steps.Reply.TheVariants as reply
use Rattle.hub_valid.specs.Lemmas.Lasting.{live_popped}
use Rattle.hub_laws.proofs.Leaving.{one_or_not}
use Rattle.hub_laws.proofs.Posting.{found-with_inbox_other}
use Rattle.hub_laws.specs.Presence.{ArePresent}
use Rattle.hub_laws.proofs.Presence.{presence}
use Rattle.hub_cascade.specs.Laws.{EndsAtMostItself, ATurnEndsAtMostItself}
use Rattle.hub_cascade.specs.Sparing.{SparesAll, SparesOthers, TellsBack, EndsNobody}
use Rattle.hub_cascade.proofs.Ends.{live_but, over_as_before, within_failed, undone}
use Rattle.hub_cascade.proofs.Over.{AreWithin, within_numbers, replay_within}
use Rattle.hub_cascade.proofs.Taking.{IsNoMore, taken, others_wait, itself_takes}
use Rattle.hub_cascade.proofs.Told.{still_waits, tells_nothing, ended_back}

-- ---- less is within, too

within_numbers_back : (l : Load) → l.count ≤ most_deliveries → l.weight ≤ most_deliveries_weight
    → overrun_by (top_load l) ≡ None
within_numbers_back l few light = rw (below most_deliveries l.count few, below most_deliveries_weight l.weight light) refl
  where
    below : (m n : ℕ) → n ≤ m → nat_lt m (top n) ≡ false
    below m n l = grind (arith, nat_tests, l)

less_within : (l m : Load) → IsNoMore l m → overrun_by (top_load m) ≡ None → overrun_by (top_load l) ≡ None
less_within l m less is =
    let most = within_numbers m is in
    let few = most.0 in
    let light = most.1 in
    within_numbers_back l (omega (arith, few, less.count)) (omega (arith, light, less.weight))

-- nobody is over where its load isn't
not_over : (k : ℕ) (s : State) → overrun_by (top_load (deliveries (actor_of k) s.world)) ≡ None
    → overrun_of k s ≡ None
not_over k s is = by (is_some (ports_of k s))
  where
    by : (c : Bool) → cond c (overrun_by (top_load (deliveries (actor_of k) s.world))) None ≡ None
    by true = is
    by false = refl

-- of one that is there
not_over_load : (k : ℕ) (p : PortsState) (s : State) → ports_of k s ≡ Some p → overrun_of k s ≡ None
    → overrun_by (top_load (deliveries (actor_of k) s.world)) ≡ None
not_over_load k p s there within =
    sym (ap (λ o. cond (is_some o) (overrun_by (top_load (deliveries (actor_of k) s.world))) None) there) ∙ within

-- ---- what a step does

pub record EndsAtMost (k : ℕ) (s : State) (x : After) : Type 0 where
  pub others : SparesOthers (actor_of k) s x.state
  pub told : TellsBack (actor_of k) s x.state
  pub itself : ((f : Fault) → x.reply ≢ reply.Refused f) → SparesAll s x.state

-- it ends nobody
ends_none : (k : ℕ) (s : State) (x : After) → EndsNobody (actor_of k) s x.state → EndsAtMost k s x
ends_none k s x nobody =
    record { others = λ b other. nobody.all b; told = nobody.told; itself = λ taken. nobody.all }

pub nobody_ends : (a : ℕ) (s : State) → EndsNobody a s s
nobody_ends a s = record { all = λ b. refl; told = tells_nothing a s }

-- u comes of s, and nobody is over in it
pub ends_nobody : (a : ℕ) (s u : State) → EndsNobody a s u → AreWithin u → EndsNobody a s (finished [] u)
ends_nobody a s u nobody within = subst (EndsNobody a s) (sym (undone u within)) nobody

pub fault_spares : (b a : ℕ) (o : Option Fault) (s : State) → AreWithin s → EndsNobody b s (tell_fault a o s).state
fault_spares b a None s within = nobody_ends b s
fault_spares b a (Some f) s within =
    let u : State = record s { faults = without_entry (a - 16) s.faults } in
    ends_nobody b s u (record { all = λ c. refl; told = tells_nothing b s }) within

-- ---- a batch is taken

module _ (k : ℕ) (b : Batch) (s : State) (first : first_batch (actor_of k) s.world.table ≡ Some b) (within : AreWithin s)
  where
    abbrev u : State
    u = taken k b s

    lives : SparesAll s u
    lives c = live_popped c (actor_of k) s.world.table

    still_there : (c : ℕ) (x : Actor) → c ≢ actor_of k → find_actor c s.world.table.actors ≡ Some x
        → find_actor c u.world.table.actors ≡ Some x
    still_there c x other found =
        found-with_inbox_other (actor_of k) c (drop 1) s.world.table.actors other ∙ found

    tells : TellsBack (actor_of k) s u
    tells c x other found = still_waits c x u.world.table.actors (still_there c x other found)

    itself_within : (p : PortsState) → ports_of k s ≡ Some p
        → overrun_by (top_load (deliveries (actor_of k) u.world)) ≡ None
    itself_within p there =
        less_within (deliveries (actor_of k) u.world) (deliveries (actor_of k) s.world) (itself_takes k b s first)
        (not_over_load k p s there (within k))

    all_within : (p : PortsState) → ports_of k s ≡ Some p → (connections : List (ℕ × PortsState))
        → ((j : ℕ) → j ≢ k → entry_of j connections ≡ entry_of j s.connections)
        → AreWithin (record u { connections = connections })
    all_within p there connections names j = elim (one_or_not j k) [
      | inl same ↦
          subst (λ i. overrun_of i (record u { connections = connections }) ≡ None) (sym same)
          (not_over k (record u { connections = connections }) (itself_within p there))
      | inr apart ↦
          (let waits = others_wait j k b s apart in
          over_as_before j s (record u { connections = connections })
          (record { live = waits.live; names = names j apart; load = waits.load })
          ∙ within j)
    ]

    unless_ends : (o : Option Fault) (p : PortsState) → ports_of k s ≡ Some p → EndsAtMost k s (told_unless o k p b u)
    unless_ends (Some f) p there =
        subst (λ t. EndsAtMost k s (record { state = t; reply = reply.Refused f }))
        (sym (undone (failed k f u) (λ j. within_failed j k f u (all_within p there s.connections (λ i apart. refl) j))))
        (record {
          others = λ c other. live_but c (actor_of k) u.world other ∙ lives c;
          told = λ c x other found.
              ended_back (actor_of k) c u.world x other (still_there c x other found);
          itself = λ taken. absurd (taken f refl);
        })
    unless_ends None p there =
        ends_none k s (told_unless None k p b u)
        (ends_nobody (actor_of k) s (exporting k b p u) (record { all = lives; told = tells })
        (all_within p there (with_entry k (names_after k b p) s.connections)
        (λ j apart. put_other k j (names_after k b p) s.connections apart)))

    -- the connection has its names: it has the same in u
    tell_ends : (p : PortsState) → ports_of k s ≡ Some p → EndsAtMost k s (tell k (ports_of k u) b u)
    tell_ends p there =
        subst (λ o. EndsAtMost k s (tell k o b u)) (sym named) (unless_ends (telling_fault k b p) p there)
      where
        named : ports_of k u ≡ Some p
        named = ap (λ c. cond c (entry_of k s.connections) None) (lives (actor_of k)) ∙ there

-- ---- the turn

pub record IsNamed (k : ℕ) (s : State) : Type 0 where
  pub ports : PortsState
  pub there : ports_of k s ≡ Some ports

named_there : (k : ℕ) (s : State) → is_some (ports_of k s) ≡ true → IsNamed k s
named_there k s is = by (ports_of k s) refl is
  where
    by : (o : Option PortsState) → ports_of k s ≡ o → is_some o ≡ true → IsNamed k s
    by None there is = absurd cc
    by (Some p) there is = record { ports = p; there = there }

-- a turn: what the actor does, and then what the hub makes of it
abbrev pub after_this : ℕ → State → TurnOf → After
after_this a s t = after_turn a t.turned (record s { world = t.world })

abbrev pub less : ℕ → State → WorldState
less a s = record s.world { table = popped a s.world.table }

connection_ends : (k : ℕ) (b : Batch) (s : State) → first_batch (actor_of k) s.world.table ≡ Some b → AreWithin s
    → IsNamed k s → EndsAtMost k s (after_this (actor_of k) s (connection_turn (actor_of k) b (less (actor_of k) s)))
connection_ends k b s first within named =
    let back : actor_of k - 16 ≡ k = omega arith in
    subst (λ j. EndsAtMost k s (tell j (ports_of j (taken k b s)) b (taken k b s))) (sym back)
    (tell_ends k b s first within named.ports named.there)

kind_ends : (k : ℕ) (b : Batch) (s : State) → first_batch (actor_of k) s.world.table ≡ Some b → AreWithin s
    → IsNamed k s → (c : Bool) → c ≡ false
    → EndsAtMost k s (after_this (actor_of k) s
    (cond c (system_turn (actor_of k) b (less (actor_of k) s)) (connection_turn (actor_of k) b (less (actor_of k) s))))
kind_ends k b s first within named true is = absurd cc
kind_ends k b s first within named false is = connection_ends k b s first within named

pub turn_ends : (k : ℕ) (s : State) → 1 ≤ k → ArePresent s → AreWithin s → EndsAtMost k s (turn_of (actor_of k) s)
turn_ends k s come here within =
    by (is_live (actor_of k) s.world.table) (first_batch (actor_of k) s.world.table) refl refl
  where
    none : TurnOf
    none = record { world = s.world; turned = turned.Gone }

    by : (c : Bool) (o : Option Batch) → is_live (actor_of k) s.world.table ≡ c
        → first_batch (actor_of k) s.world.table ≡ o
        → EndsAtMost k s (after_this (actor_of k) s (cond c (turn_first (actor_of k) o s.world) none))
    by true None live first = ends_none k s (unchanged s reply.Idle) (nobody_ends (actor_of k) s)
    by true (Some b) live first =
        kind_ends k b s first within (named_there k s (here.names k come live).1) (is_system (actor_of k))
        (grind (arith, nat_tests, come))
    by false o live first =
        ends_none k s (tell_fault (actor_of k) (fault_for (actor_of k) s) s)
        (fault_spares (actor_of k) (actor_of k) (fault_for (actor_of k) s) s within)

pub at_most_itself : (k : ℕ) (s : State) → 1 ≤ k → ArePresent s → AreWithin s → EndsAtMostItself k s
at_most_itself k s come here within = record { others = most.others; told = most.told; itself = most.itself }
  where
    by : (c : Bool) → EndsAtMost k s (cond c (unchanged s reply.Worn) (done s (Turn (actor_of k))))
    by true = ends_none k s (unchanged s reply.Worn) (nobody_ends (actor_of k) s)
    by false = turn_ends k s come here within

    most : EndsAtMost k s (step s (Turn (actor_of k)))
    most = by (is_worn s (Turn (actor_of k)))

pub a_turn_ends_at_most_itself : ATurnEndsAtMostItself
a_turn_ends_at_most_itself ds steps may k come =
    at_most_itself k (replay ds steps) come (presence ds steps may) (replay_within ds steps)
