-- What the hub's parts keep: the connections' numbers are small, the state is valid, and who may be over a limit is left
-- to be looked at.
use Rattle.std.proofs.Common.{◌≡◌, ℕ, ◌+◌, ◌<◌, ◌≤◌, ◌^◌, List, [], false, Option, Some, None, sym, subst, arith}
use Rattle.std.proofs.Common.{ap, ◌∙◌, ◌⊎◌, inl, inr}
use Rattle.std.specs.Prelude.{IfSome}
use Rattle.std.specs.BTreeMap.{insert_entry, is_at}
use Rattle.std.specs.Map.{remove_entry}
use Rattle.std.specs.Ordering.{nat_cmp}
use Rattle.pv_value.specs.Plain.{Plain}
use Rattle.sr_caveat.specs.Caps.{IsSound}
use Rattle.gk_sturdy.specs.declared.bound.Binding.{Binding}
use Rattle.ac_world.specs.declared.watched.Watched.{Watched}
use Rattle.ac_world.specs.Worlds.{WorldState, actor_of, arrived, ended_of, entry_of, binding, watching}
use Rattle.ac_world.specs.Turns.{turn}
use Rattle.ac_world.specs.declared.turns.Turned.{Turned}
use Rattle.rl_ports.specs.Ports.{PortsState, ports_to}
use Rattle.hub_machine.specs.declared.faults.Fault.{Fault}
use Rattle.hub_machine.specs.Endings.{dismissed, overrun_of}
use Rattle.hub_machine.specs.State.{State}
use Rattle.hub_machine.specs.Machine.{actor_reference, is_barred, is_unwatchable}
use Rattle.hub_valid.specs.Validity.{lived, AreValid, IsValidEntry}
use Rattle.hub_valid.specs.Lemmas.Hubs.{opened_is_valid, nameless_is_valid, dismissed_is_valid, turned_is_valid}
use Rattle.hub_valid.specs.Lemmas.Hubs.{bound_is_valid, watched_is_valid}
use Rattle.hub_laws.proofs.Leaving.{one_or_not}
use Rattle.hub_laws.proofs.Presence.{dead_itself}
use Rattle.hub_cascade.proofs.Ends.{unless_live, unless_named}
use Rattle.hub_cascade.proofs.Looked.{within_nameless, within_dismissed, within_named, within_opened}
use Rattle.hub_core.specs.declared.unchecked.Unchecked.{Unchecked}
use Rattle.hub_core.specs.Looking.{AreLeft, and_one, and_turned}
use Rattle.hub_core.specs.Work.{is_waited_for}
use Rattle.hub_core.proofs.Idle.{ended_idle, zeroth}
use Rattle.hub_core.proofs.Looking.{state_of, left_still, left_and_one, left_turned}
use Rattle.hub_core.proofs.Small.{AreSmall, small_with, small_without, entry_at}
use Rattle.hub_core.proofs.Watching.{may_watch, none_named}

abbrev pub AreKept : Unchecked → WorldState → List (ℕ × PortsState) → List (ℕ × Fault) → Type 0
AreKept u w names faults = AreSmall names × AreSmall faults × AreValid w names × AreLeft u w names

pub kept_without : (k : ℕ) (u : Unchecked) (w : WorldState) (names less : List (ℕ × PortsState))
    (faults : List (ℕ × Fault)) → less ≡ remove_entry (is_at (nat_cmp k)) names → AreKept u w names faults
    → AreKept u w less faults
kept_without k u w names less faults is kept =
    subst (λ (es : List (ℕ × PortsState)). AreKept u w es faults) (sym is) (
      small_without _ names kept.0,
      kept.1,
      nameless_is_valid k (state_of w names) kept.2,
      left_still u w w names (remove_entry (is_at (nat_cmp k)) names)
          (λ j. within_nameless j k (state_of w names)) (λ j idle. inl idle) kept.3,
    )

-- whoever goes
pub kept_dismissed : (a : ℕ) (u : Unchecked) (w world : WorldState) (names : List (ℕ × PortsState))
    (faults : List (ℕ × Fault)) → world ≡ ended_of a w → AreKept u w names faults → AreKept u world names faults
kept_dismissed a u w world names faults is kept =
    subst (λ (x : WorldState). AreKept u x names faults) (sym is) (
      kept.0,
      kept.1,
      dismissed_is_valid a (state_of w names) kept.2,
      left_still u w (ended_of a w) names names (λ j. within_dismissed j a (state_of w names)) idle kept.3,
    )
  where
    -- for the one that goes nothing waits, and nothing of it is over
    idle : (j : ℕ) → is_waited_for j (state_of (ended_of a w) names) ≡ false
        → (is_waited_for j (state_of w names) ≡ false) ⊎ (overrun_of j (state_of (ended_of a w) names) ≡ None)
    idle j none = elim (one_or_not (actor_of j) a) [
      | inl same ↦
          inr (subst (λ b. overrun_of j (dismissed b (state_of w names)) ≡ None) same
          (unless_live j (dismissed (actor_of j) (state_of w names)) (dead_itself (actor_of j) w)))
      | inr apart ↦ inl (ended_idle (actor_of j) a w apart none)
    ]

-- names come, in a world that may have changed
pub kept_with : (k : ℕ) (u v : Unchecked) (w world : WorldState) (names more : List (ℕ × PortsState))
    (faults : List (ℕ × Fault)) (p : PortsState) → more ≡ insert_entry nat_cmp names k p → k ≤ 2 ^ 31
    → AreKept u w names faults → AreValid world (insert_entry nat_cmp names k p)
    → AreLeft v world (insert_entry nat_cmp names k p) → AreKept v world more faults
kept_with k u v w world names more faults p is small kept valid left =
    subst (λ (es : List (ℕ × PortsState)). AreKept v world es faults) (sym is)
    (small_with k p names small kept.0, kept.1, valid, left)

pub kept_turned : (a : ℕ) (d : Turned) (u v : Unchecked) (w world : WorldState) (names : List (ℕ × PortsState))
    (faults : List (ℕ × Fault)) → world ≡ (turn a w).world → d ≡ (turn a w).turned → v ≡ and_turned a d u
    → AreKept u w names faults → AreKept v world names faults
kept_turned a d u v w world names faults is told unchecked kept =
    subst (λ (x : WorldState). AreKept v x names faults) (sym is) (
      kept.0,
      kept.1,
      turned_is_valid a (state_of w names) kept.2,
      subst (λ (x : Unchecked). AreLeft x (turn a w).world names)
          (sym (unchecked ∙ ap (λ (x : Turned). and_turned a x u) told))
          (left_turned a u w names (zeroth (lived w) names kept.2.named) kept.3),
    )

pub kept_bound : (b : Binding) (u : Unchecked) (s : State) (world : WorldState) → IsSound b.cap → is_barred b s ≡ false
    → world ≡ binding b s.world → AreKept u s.world s.connections s.faults
    → AreKept u world s.connections s.faults
kept_bound b u s world sound free is kept =
    subst (λ (x : WorldState). AreKept u x s.connections s.faults) (sym is) (
      kept.0,
      kept.1,
      bound_is_valid b s sound free kept.2,
      left_still u s.world (binding b s.world) s.connections s.connections (λ j within. within)
          (λ j idle. inl idle) kept.3,
    )

-- no connection has names then
pub kept_watched : (x : Watched) (u : Unchecked) (s : State) (world : WorldState) → is_unwatchable x s ≡ false
    → world ≡ watching x s.world → AreKept u s.world s.connections s.faults
    → AreKept u world s.connections s.faults
kept_watched x u s world free is kept =
    let none = none_named (lived s.world) s.connections (may_watch x s free).0 kept.2.named in
    subst (λ (w : WorldState). AreKept u w s.connections s.faults) (sym is) (
      kept.0,
      kept.1,
      watched_is_valid x s free kept.2,
      left_still u s.world (watching x s.world) s.connections s.connections
          (λ j within. unless_named j (state_of (watching x s.world) s.connections) (none j))
          (λ j idle. inr (unless_named j (state_of (watching x s.world) s.connections) (none j))) kept.3,
    )

-- a connection's names are put back
pub left_named : (k : ℕ) (p : PortsState) (u v : Unchecked) (w : WorldState) (names : List (ℕ × PortsState))
    → v ≡ and_one k u → AreLeft u w names → AreLeft v w (insert_entry nat_cmp names k p)
left_named k p u v w names is left =
    subst (λ (x : Unchecked). AreLeft x w (insert_entry nat_cmp names k p)) (sym is)
    (left_and_one k u w w names (insert_entry nat_cmp names k p)
    (λ j apart. within_named j k p (state_of w names) apart) left)

-- a connection comes
pub left_opened : (space number at : ℕ) (first : Plain) (u v : Unchecked) (w world : WorldState)
    (names : List (ℕ × PortsState)) (p : PortsState) → world ≡ arrived w → number ≡ w.opened + 1 → at ≡ space
    → first ≡ actor_reference at → p ≡ ports_to first → v ≡ and_one number u → AreLeft u w names
    → AreLeft v world (insert_entry nat_cmp names number p)
left_opened space number at first u v w world names p world_is number_is at_is first_is p_is is left =
    rw (is, world_is, number_is, p_is, first_is, at_is)
    (left_and_one (w.opened + 1) u w (arrived w) names
    (insert_entry nat_cmp names (w.opened + 1) (ports_to (actor_reference space)))
    (λ j apart. within_opened j space (state_of w names) apart) left)

pub opened_valid : (space number at : ℕ) (first : Plain) (w world : WorldState) (names : List (ℕ × PortsState))
    (p : PortsState) → space ≤ 8 → w.opened < 2 ^ 31 → world ≡ arrived w → number ≡ w.opened + 1 → at ≡ space
    → first ≡ actor_reference at → p ≡ ports_to first → AreValid w names
    → AreValid world (insert_entry nat_cmp names number p)
opened_valid space number at first w world names p l few world_is number_is at_is first_is p_is valid =
    rw (world_is, number_is, p_is, first_is, at_is)
    (opened_is_valid space (record { world = w; connections = names; faults = []; stopped = false }) (omega (arith, l))
    few valid)

-- the names of a connection are valid
pub entry_valid : (k : ℕ) (w : WorldState) (names : List (ℕ × PortsState)) (o : Option PortsState) → AreValid w names
    → o ≡ entry_of k names → IfSome o (λ p. IsValidEntry (lived w) (k, p))
entry_valid k w names None valid is = tt
entry_valid k w names (Some p) valid is = entry_at (IsValidEntry (lived w)) k names p valid.named (sym is)
