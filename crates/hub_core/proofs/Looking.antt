-- Who is left to be looked at through each change of the hub's parts.
use Rattle.std.proofs.Common.{◌≡◌, ◌≢◌, ℕ, ◌-◌, ◌<◌, ◌≤◌, ◌==◌, ◌||◌, List, [], ◌∷◌, Bool, true, false, Option, None}
use Rattle.std.proofs.Common.{Some, refl, ap, sym, ◌∙◌, subst, arith, cond, filter, ◌⊎◌, inl, inr}
use Rattle.std.proofs.lemmas.Bool.Decides.{nat_tests}
use Rattle.std.specs.List.{AllByRecursion, list_any}
use Rattle.std.specs.Map.{keys_of}
use Rattle.std.specs.Prelude.{if◌then◌else◌}
use Rattle.ac_table.specs.declared.batches.Batch.{Batch}
use Rattle.ac_table.specs.Tables.{is_live, first_batch}
use Rattle.ac_world.specs.declared.acts.Act.{Act}
use Rattle.ac_world.specs.declared.acts.Act.TheVariants as act
use Rattle.ac_world.specs.declared.turns.Turned.TheVariants as turned
use Rattle.ac_world.specs.Turns.{After as TurnOf, system_turn, connection_turn, turn_with, turn_first, turn}
use Rattle.ac_world.specs.Worlds.{WorldState, actor_of, entry_of, is_system, with_entry, sent}
use Rattle.rl_ports.specs.Ports.{PortsState}
use Rattle.hub_machine.specs.Admission.{Admitting}
use Rattle.hub_machine.specs.State.{State}
use Rattle.hub_machine.specs.declared.faults.Fault.{Fault}
use Rattle.hub_machine.specs.Endings.{failed_where, overrun_of, all_overrun, each_overrun}
use Rattle.hub_laws.proofs.Leaving.{one_or_not}
use Rattle.hub_cascade.proofs.Ends.{over_as_before, within_failed}
use Rattle.hub_cascade.proofs.Looked.{within_accepted, looked_at_one, all_looked_at}
use Rattle.hub_cascade.proofs.Taking.{taken, others_wait}
use Rattle.hub_cascade.proofs.Unheard.{IsApart}
use Rattle.hub_core.specs.declared.unchecked.Unchecked.{Unchecked}
use Rattle.hub_core.specs.declared.unchecked.Unchecked.TheVariants.{Nobody, One, Waiting, All}
use Rattle.hub_core.specs.Looking.{AreWithin, AreWithinBut, IdleAreWithin, AreLeft, and_one, and_waiting}
use Rattle.hub_core.specs.Looking.{is_at_connection, and_acted, and_turned}
use Rattle.hub_core.specs.Work.{is_waited_for, waited_for}
use Rattle.hub_core.proofs.Idle.{less, ran, ran_idle, ran_within, none_at}

-- what of a state has a part in who is over a limit
abbrev pub state_of : WorldState → List (ℕ × PortsState) → State
state_of w names = record { world = w; connections = names; faults = []; stopped = false }

-- nobody comes to be over a limit, and for whom nothing waits nothing waited, or nothing of him is over
pub left_still : (u : Unchecked) (w v : WorldState) (names less : List (ℕ × PortsState))
    → ((j : ℕ) → overrun_of j (state_of w names) ≡ None → overrun_of j (state_of v less) ≡ None)
    → ((j : ℕ) → is_waited_for j (state_of v less) ≡ false
    → (is_waited_for j (state_of w names) ≡ false) ⊎ (overrun_of j (state_of v less) ≡ None))
    → AreLeft u w names → AreLeft u v less
left_still Nobody w v names less stays idle left = λ j. stays j (left j)
left_still (One k) w v names less stays idle left = λ j apart. stays j (left j apart)
left_still Waiting w v names less stays idle left = λ j none. elim (idle j none) [
  | inl before ↦ stays j (left j before)
  | inr within ↦ within
]
left_still All w v names less stays idle left = tt

-- nobody does but connection k
pub left_and_one : (k : ℕ) (u : Unchecked) (w v : WorldState) (names more : List (ℕ × PortsState))
    → ((j : ℕ) → j ≢ k → overrun_of j (state_of w names) ≡ None → overrun_of j (state_of v more) ≡ None)
    → AreLeft u w names → AreLeft (and_one k u) v more
left_and_one k Nobody w v names more stays left = λ j apart. stays j apart (left j)
left_and_one k (One i) w v names more stays left = by (i == k) refl
  where
    by : (c : Bool) → (i == k) ≡ c → AreLeft (if c then One k else All) v more
    by true is =
        let same : i ≡ k = grind (arith, is) in
        λ j apart. stays j apart (left j (λ here. apart (here ∙ same)))
    by false is = tt
left_and_one k Waiting w v names more stays left = tt
left_and_one k All w v names more stays left = tt

-- ---- acts

no_act : (c : ℕ) (x : Act) → 16 ≤ c → is_at_connection x ≡ false → IsApart c x
no_act c (act.Assert target entity v) high is = λ same. grind (arith, nat_tests, high, is)
no_act c (act.Retract handle) high is = tt
no_act c (act.Message target entity v) high is = λ same. grind (arith, nat_tests, high, is)
no_act c (act.Sync target entity peer) high is = λ same. grind (arith, nat_tests, high, is)

no_acts : (c : ℕ) (acts : List Act) → 16 ≤ c → list_any is_at_connection acts ≡ false
    → AllByRecursion (IsApart c) acts
no_acts c [] high is = tt
no_acts c (x ∷ xs) high is = by (is_at_connection x) refl is (no_acts c xs high)
  where
    by : (b : Bool) → is_at_connection x ≡ b → (b || list_any is_at_connection xs) ≡ false
        → (list_any is_at_connection xs ≡ false → AllByRecursion (IsApart c) xs)
        → AllByRecursion (IsApart c) (x ∷ xs)
    by true here is later = absurd cc
    by false here is later = (no_act c x high here, later is)

left_acted : (k : ℕ) (x : Admitting) (u : Unchecked) (w : WorldState) (names : List (ℕ × PortsState))
    → AreLeft u w names
    → AreLeft (and_acted k x.acts u) (sent (actor_of k) x.acts w) (with_entry k x.ports names)
left_acted k x u w names left = by (list_any is_at_connection x.acts) refl
  where
    by : (b : Bool) → list_any is_at_connection x.acts ≡ b
        → AreLeft (if b then All else and_one k u) (sent (actor_of k) x.acts w) (with_entry k x.ports names)
    by true is = tt
    by false is =
        left_and_one k u w (sent (actor_of k) x.acts w) names (with_entry k x.ports names)
        (λ j apart within.
        within_accepted j k x (state_of w names) (no_acts (actor_of j) x.acts (omega arith) is) apart within)
        left

-- they are done
pub left_sent : (k : ℕ) (x : Admitting) (u v : Unchecked) (w world : WorldState) (names : List (ℕ × PortsState))
    (seen acts : List Act) (p : PortsState) → world ≡ sent (actor_of k) acts w → v ≡ and_acted k seen u
    → seen ≡ acts → acts ≡ x.acts → p ≡ x.ports → AreLeft u w names → AreLeft v world (with_entry k p names)
left_sent k x u v w world names seen acts p world_is v_is seen_is acts_is p_is left =
    rw (world_is, v_is, seen_is, acts_is, p_is) (left_acted k x u w names left)

-- ---- a turn

left_ran : (a : ℕ) (b : Batch) (u : Unchecked) (w : WorldState) (names : List (ℕ × PortsState)) → a < 17
    → entry_of 0 names ≡ None → AreLeft u w names
    → AreLeft (and_waiting u) (system_turn a b (less a w)).world names
left_ran a b Nobody w names low none left = λ j idle. elim (one_or_not (actor_of j) a) [
  | inl same ↦ none_at j a (ran a b (state_of w names)) low none same
  | inr apart ↦ ran_within j a b (state_of w names) apart idle (left j)
]
left_ran a b (One k) w names low none left = tt
left_ran a b Waiting w names low none left = λ j idle. elim (one_or_not (actor_of j) a) [
  | inl same ↦ none_at j a (ran a b (state_of w names)) low none same
  | inr apart ↦
      ran_within j a b (state_of w names) apart idle (left j (ran_idle j a b (state_of w names) apart idle))
]
left_ran a b All w names low none left = tt

left_took : (a : ℕ) (b : Batch) (u : Unchecked) (w : WorldState) (names : List (ℕ × PortsState)) → 17 ≤ a
    → AreLeft u w names → AreLeft (and_one (a - 16) u) (connection_turn a b (less a w)).world names
left_took a b u w names high left =
    let its : actor_of (a - 16) ≡ a = omega (arith, high) in
    left_and_one (a - 16) u w (connection_turn a b (less a w)).world names names
    (λ j apart within.
    subst (λ i. overrun_of j (state_of (connection_turn i b (less i w)).world names) ≡ None) its
    (over_as_before j (state_of w names) (taken (a - 16) b (state_of w names))
    (others_wait j (a - 16) b (state_of w names) apart)
    ∙ within))
    left

left_with : (a : ℕ) (b : Batch) (u : Unchecked) (w : WorldState) (names : List (ℕ × PortsState))
    → entry_of 0 names ≡ None → AreLeft u w names
    → AreLeft (and_turned a (turn_with a b (less a w)).turned u) (turn_with a b (less a w)).world names
left_with a b u w names none left = by (is_system a) refl
  where
    by : (c : Bool) → is_system a ≡ c
        → AreLeft (and_turned a (cond c (system_turn a b (less a w)) (connection_turn a b (less a w))).turned u)
        (cond c (system_turn a b (less a w)) (connection_turn a b (less a w))).world names
    by true is = left_ran a b u w names (grind (arith, nat_tests, is)) none left
    by false is = left_took a b u w names (grind (arith, nat_tests, is)) left

pub left_turned : (a : ℕ) (u : Unchecked) (w : WorldState) (names : List (ℕ × PortsState)) → entry_of 0 names ≡ None
    → AreLeft u w names → AreLeft (and_turned a (turn a w).turned u) (turn a w).world names
left_turned a u w names none left = by (is_live a w.table) (first_batch a w.table)
  where
    nobody : TurnOf
    nobody = record { world = w; turned = turned.Gone }

    by : (c : Bool) (o : Option Batch)
        → AreLeft (and_turned a (cond c (turn_first a o w) nobody).turned u) (cond c (turn_first a o w) nobody).world
        names
    by true None = left
    by true (Some b) = left_with a b u w names none left
    by false o = left

-- ---- a step's end

-- the one that was left ended, where it had to
pub one_looked_at : (k : ℕ) (s h : State) (f : Option Fault) → AreWithinBut k s → f ≡ overrun_of k s
    → h ≡ failed_where k f s → h ≡ each_overrun s
one_looked_at k s h f others fault is =
    is ∙ ap (λ (g : Option Fault). failed_where k g s) fault ∙ looked_at_one k s others

pub each_looked_at : (ks : List ℕ) (s h : State) → ks ≡ keys_of s.connections → h ≡ all_overrun ks s → h ≡ each_overrun s
each_looked_at ks s h numbers is = is ∙ ap (λ (ns : List ℕ). all_overrun ns s) numbers

-- those ended who had to among those for whom something waits
within_where : (j k : ℕ) (o : Option Fault) (s : State) → overrun_of j s ≡ None
    → overrun_of j (failed_where k o s) ≡ None
within_where j k None s within = within
within_where j k (Some f) s within = within_failed j k f s within

-- who isn't looked at isn't over a limit
some_overrun : (test : ℕ → Bool) (ks : List ℕ) (s : State) → ((j : ℕ) → test j ≡ false → overrun_of j s ≡ None)
    → all_overrun (filter test ks) s ≡ all_overrun ks s
some_overrun test [] s within = refl
some_overrun test (k ∷ ks) s within = by (test k) refl (λ t. some_overrun test ks t)
  where
    by : (b : Bool) → test k ≡ b
        → ((t : State) → ((j : ℕ) → test j ≡ false → overrun_of j t ≡ None)
        → all_overrun (filter test ks) t ≡ all_overrun ks t)
        → all_overrun (cond b (k ∷ filter test ks) (filter test ks)) s
        ≡ all_overrun ks (failed_where k (overrun_of k s) s)
    by true is later =
        later (failed_where k (overrun_of k s) s) (λ j out. within_where j k (overrun_of k s) s (within j out))
    by false is later =
        later s within ∙ sym (ap (λ (o : Option Fault). all_overrun ks (failed_where k o s)) (within k is))

pub waiting_looked_at : (ks : List ℕ) (s h : State) → IdleAreWithin s → ks ≡ waited_for s → h ≡ all_overrun ks s
    → h ≡ each_overrun s
waiting_looked_at ks s h within numbers is =
    is ∙ ap (λ (ns : List ℕ). all_overrun ns s) numbers
    ∙ some_overrun (λ k. is_waited_for k s) (keys_of s.connections) s within

pub within_after : (s h : State) → h ≡ each_overrun s → AreWithin h
within_after s h is = subst AreWithin (sym is) (all_looked_at s)
