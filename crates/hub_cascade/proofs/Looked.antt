-- Who stays within the limits through each change, and what a step's end does that looks only at those who may not have.
use Rattle.std.proofs.Common.{◌≡◌, ◌≢◌, ℕ, ◌+◌, ◌≤◌, List, [], ◌∷◌, Bool, true, false, cond, Option, Some, None}
use Rattle.std.proofs.Common.{inl, inr, refl, ap, sym, ◌∙◌, subst, arith, is_some}
use Rattle.std.proofs.lemmas.Bool.Decides.{nat_tests}
use Rattle.std.specs.BTreeMap.{is_at}
use Rattle.std.specs.List.{AllByRecursion}
use Rattle.std.specs.Map.{keys_of, values_of}
use Rattle.std.specs.Ordering.{nat_cmp}
use Rattle.ac_table.specs.declared.batches.Batch.{Batch}
use Rattle.ac_table.specs.Sums.{both, load_waiting, inbox_of, top_load}
use Rattle.ac_table.specs.Tables.{is_live, first_batch, popped}
use Rattle.ac_world.specs.Lemmas.Entries.{put_other}
use Rattle.ac_world.specs.Sums.{load_got, deliveries}
use Rattle.ac_world.specs.Turns.{After as TurnOf, turn, turn_first, system_turn, connection_turn}
use Rattle.ac_world.specs.Worlds.{actor_of, entry_of, with_entry, without_entry, held_by, is_system}
use Rattle.ac_world.specs.declared.turns.Turned.TheVariants as turned
use Rattle.hub_machine.specs.Admission.{Admitting}
use Rattle.hub_machine.specs.declared.faults.Fault.{Fault}
use Rattle.hub_machine.specs.Endings.{nameless, dismissed, failed, failed_where, overrun_by, overrun_of, all_overrun}
use Rattle.hub_machine.specs.Endings.{each_overrun}
use Rattle.hub_machine.specs.Machine.{opened, accepted}
use Rattle.hub_machine.specs.State.{State}
use Rattle.hub_valid.specs.Lemmas.Lasting.{lasts_sent}
use Rattle.rl_ports.specs.Ports.{PortsState}
use Rattle.hub_laws.proofs.Joining.{joined_other, joined_live_other}
use Rattle.hub_laws.proofs.Leaving.{one_or_not}
use Rattle.hub_laws.proofs.Presence.{dead_itself}
use Rattle.hub_laws.proofs.Uncounted.{endings_spare_others}
use Rattle.hub_cascade.proofs.Ends.{apart_actors, live_but, unless_live, unless_named, over_as_before}
use Rattle.hub_cascade.proofs.Ends.{fails_itself, within_failed, nothing_to_do, none_over}
use Rattle.hub_cascade.proofs.Taking.{taken, others_wait}
use Rattle.hub_cascade.proofs.Unheard.{IsApart, sent_waits}

-- nobody is over a limit but connection k, of which nothing is said
abbrev OthersAreWithin : ℕ → State → Type 0
OthersAreWithin k s = (j : ℕ) → j ≢ k → overrun_of j s ≡ None

-- ---- who is over no limit stays so

-- who has names without an entry has names
named_before : {X : Type 0} (j k : ℕ) (es : List (ℕ × X)) → is_some (entry_of j (without_entry k es)) ≡ true
    → is_some (entry_of j es) ≡ true
named_before j k [] is = is
named_before {X = X} j k (e ∷ es) is = by (is_at (nat_cmp k) e.0) is (named_before j k es)
  where
    here : (d : Bool) → is_some (entry_of j es) ≡ true → is_some (cond {A = Option X} d (Some e.1) (entry_of j es)) ≡ true
    here true is = refl
    here false is = is

    past : (d : Bool) → is_some (cond {A = Option X} d (Some e.1) (entry_of j (without_entry k es))) ≡ true
        → (is_some (entry_of j (without_entry k es)) ≡ true → is_some (entry_of j es) ≡ true)
        → is_some (cond {A = Option X} d (Some e.1) (entry_of j es)) ≡ true
    past true is later = refl
    past false is later = later is

    by : (c : Bool) → is_some (entry_of j (cond c es (e ∷ without_entry k es))) ≡ true
        → (is_some (entry_of j (without_entry k es)) ≡ true → is_some (entry_of j es) ≡ true)
        → is_some (entry_of j (e ∷ es)) ≡ true
    by true is later = here (is_at (nat_cmp j) e.0) is
    by false is later = past (is_at (nat_cmp j) e.0) is later

pub within_nameless : (j k : ℕ) (s : State) → overrun_of j s ≡ None → overrun_of j (nameless k s) ≡ None
within_nameless j k s within =
    by (is_live (actor_of j) s.world.table) (entry_of j s.connections) (entry_of j (without_entry k s.connections))
    (named_before j k s.connections) within
  where
    by : (b : Bool) (o n : Option PortsState) → (is_some n ≡ true → is_some o ≡ true)
        → cond (is_some (cond b o None)) (overrun_by (top_load (deliveries (actor_of j) s.world))) None ≡ None
        → cond (is_some (cond b n None)) (overrun_by (top_load (deliveries (actor_of j) s.world))) None ≡ None
    by false o n before is = refl
    by true o None before is = refl
    by true (Some p) (Some q) before is = is
    by true None (Some q) before is = absurd (let none : false ≡ true = before refl in cc)

-- whoever goes
pub within_dismissed : (j a : ℕ) (s : State) → overrun_of j s ≡ None → overrun_of j (dismissed a s) ≡ None
within_dismissed j a s within = elim (one_or_not (actor_of j) a) [
  | inl same ↦
      subst (λ b. overrun_of j (dismissed b s) ≡ None) same
      (unless_live j (dismissed (actor_of j) s) (dead_itself (actor_of j) s.world))
  | inr apart ↦
      over_as_before j s (dismissed a s) (record {
        live = live_but (actor_of j) a s.world apart;
        names = refl;
        load = endings_spare_others a (actor_of j) s.world apart;
      })
      ∙ within
]

-- ---- so do all but one where that one gets names, comes, takes its turn or sends what reaches no other

pub within_named : (j k : ℕ) (p : PortsState) (s : State) → j ≢ k → overrun_of j s ≡ None
    → overrun_of j (record s { connections = with_entry k p s.connections }) ≡ None
within_named j k p s apart within =
    over_as_before j s (record s { connections = with_entry k p s.connections })
    (record { live = refl; names = put_other k j p s.connections apart; load = refl })
    ∙ within

pub within_opened : (j space : ℕ) (s : State) → j ≢ s.world.opened + 1 → overrun_of j s ≡ None
    → overrun_of j (opened space s) ≡ None
within_opened j space s apart within =
    over_as_before j s (opened space s) (record {
      live = joined_live_other (actor_of (s.world.opened + 1)) (actor_of j) s.world.table actors;
      names = put_other (s.world.opened + 1) j _ s.connections apart;
      load = ap (λ o. both (load_got (values_of (held_by (actor_of j) s.world))) (load_waiting (inbox_of o)))
          (joined_other (actor_of (s.world.opened + 1)) (actor_of j) s.world.table actors);
    })
    ∙ within
  where
    actors : actor_of j ≢ actor_of (s.world.opened + 1)
    actors = apart_actors j (s.world.opened + 1) apart

pub within_turned : (j k : ℕ) (s : State) → 1 ≤ k → j ≢ k → overrun_of j s ≡ None
    → overrun_of j (record s { world = (turn (actor_of k) s.world).world }) ≡ None
within_turned j k s come apart within =
    by (is_live (actor_of k) s.world.table) (first_batch (actor_of k) s.world.table)
  where
    none : TurnOf
    none = record { world = s.world; turned = turned.Gone }

    with_batch : (b : Batch) (c : Bool) → c ≡ false
        → overrun_of j (record s {
          world = (cond c
              (system_turn (actor_of k) b (record s.world { table = popped (actor_of k) s.world.table }))
              (connection_turn (actor_of k) b (record s.world { table = popped (actor_of k) s.world.table }))).world;
        }) ≡ None
    with_batch b true is = absurd cc
    with_batch b false is = over_as_before j s (taken k b s) (others_wait j k b s apart) ∙ within

    by : (c : Bool) (o : Option Batch)
        → overrun_of j (record s { world = (cond c (turn_first (actor_of k) o s.world) none).world }) ≡ None
    by true None = within
    by true (Some b) = with_batch b (is_system (actor_of k)) (grind (arith, nat_tests, come))
    by false o = within

pub within_accepted : (j k : ℕ) (x : Admitting) (s : State) → AllByRecursion (IsApart (actor_of j)) x.acts → j ≢ k
    → overrun_of j s ≡ None → overrun_of j (accepted k x s) ≡ None
within_accepted j k x s others apart within =
    over_as_before j s (accepted k x s) (record {
      live = (lasts_sent (actor_of k) x.acts s.world).live (actor_of j);
      names = put_other k j x.ports s.connections apart;
      load = ap (both (load_got (values_of (held_by (actor_of j) s.world))))
          (sent_waits (actor_of j) (actor_of k) x.acts s.world others);
    })
    ∙ within

-- ---- a step's end where connection k may be over a limit, and nobody else

module _ (k : ℕ) (f : Fault) where
  all_after : (s : State) → OthersAreWithin k s → (j : ℕ) → overrun_of j (failed k f s) ≡ None
  all_after s others j = elim (one_or_not j k) [
    | inl same ↦ subst (λ i. overrun_of i (failed k f s) ≡ None) (sym same) (fails_itself k f s)
    | inr apart ↦ within_failed j k f s (others j apart)
  ]

  ends_alone : (es : List (ℕ × PortsState)) (p : PortsState) (s : State) → entry_of k es ≡ Some p
      → overrun_of k s ≡ Some f → OthersAreWithin k s → all_overrun (keys_of es) s ≡ failed k f s
  ends_alone [] p s found over others = absurd cc
  ends_alone (e ∷ es) p s found over others =
      by (is_at (nat_cmp k) e.0) refl found (λ is. ends_alone es p s is over others)
    where
      by : (c : Bool) → is_at (nat_cmp k) e.0 ≡ c → cond c (Some e.1) (entry_of k es) ≡ Some p
          → (entry_of k es ≡ Some p → all_overrun (keys_of es) s ≡ failed k f s)
          → all_overrun (keys_of es) (failed_where e.0 (overrun_of e.0 s) s) ≡ failed k f s
      by true here is later =
          let same : k ≡ e.0 = grind (arith, nat_tests, here) in
          ap (λ i. all_overrun (keys_of es) (failed_where i (overrun_of i s) s)) (sym same)
          ∙ ap (λ o. all_overrun (keys_of es) (failed_where k o s)) over
          ∙ nothing_to_do (keys_of es) (failed k f s) (all_after s others)
      by false past is later =
          let apart : e.0 ≢ k = λ same. grind (arith, nat_tests, past) in
          ap (λ o. all_overrun (keys_of es) (failed_where e.0 o s)) (others e.0 apart) ∙ later is

pub looked_at_one : (k : ℕ) (s : State) → OthersAreWithin k s → failed_where k (overrun_of k s) s ≡ each_overrun s
looked_at_one k s others = by (overrun_of k s) refl
  where
    named : (f : Fault) (o : Option PortsState) → entry_of k s.connections ≡ o → overrun_of k s ≡ Some f
        → failed k f s ≡ each_overrun s
    named f None found over =
        absurd (let none : Some f ≡ None = sym over ∙ unless_named k s found in cc)
    named f (Some p) found over = sym (ends_alone k f s.connections p s found over others)

    all : overrun_of k s ≡ None → (j : ℕ) → overrun_of j s ≡ None
    all none j = elim (one_or_not j k) [
      | inl same ↦ subst (λ i. overrun_of i s ≡ None) (sym same) none
      | inr apart ↦ others j apart
    ]

    by : (o : Option Fault) → overrun_of k s ≡ o → failed_where k o s ≡ each_overrun s
    by None is = sym (nothing_to_do (keys_of s.connections) s (all is))
    by (Some f) is = named f (entry_of k s.connections) refl is

-- nobody is over a limit once each was looked at
pub all_looked_at : (s : State) (j : ℕ) → overrun_of j (each_overrun s) ≡ None
all_looked_at s j = none_over [] s j
