-- For whom nothing waits once batches were posted, nothing waited before, and nothing was told.
use Rattle.std.proofs.Common.{◌≡◌, ◌≢◌, ℕ, ◌<◌, ◌≤◌, List, [], ◌∷◌, ◌++◌, Bool, true, false, cond, Option, Some, None}
use Rattle.std.proofs.Common.{refl, ap, sym, ◌∙◌, subst, arith, is_some, drop, slice_get, inl, inr}
use Rattle.std.specs.Map.{values_of}
use Rattle.std.specs.BTreeMap.{is_at}
use Rattle.std.specs.List.{AllByRecursion}
use Rattle.std.specs.Ordering.{nat_cmp}
use Rattle.std.proofs.lemmas.Bool.Decides.{nat_tests}
use Rattle.ac_table.specs.declared.batches.Batch.{Batch}
use Rattle.ac_table.specs.Sums.{both, load_waiting, inbox_of}
use Rattle.ac_table.specs.Tables.{TableState, Actor, find_actor, is_live, first_in, first_batch, pushed, popped, ended}
use Rattle.ac_table.specs.Tables.{rows_of}
use Rattle.ac_world.specs.Behaviours.{behaviour_of}
use Rattle.ac_world.specs.Outboxes.{Outbox, posted, retractions}
use Rattle.ac_world.specs.Sums.{load_got}
use Rattle.ac_world.specs.Turns.{Turning, begin_turn, all_turned, system_turn}
use Rattle.ac_world.specs.Worlds.{WorldState, actor_of, entry_of, held_by, gone, ended_of}
use Rattle.rl_ports.specs.Ports.{PortsState}
use Rattle.hub_machine.specs.State.{State}
use Rattle.hub_machine.specs.Endings.{overrun_of}
use Rattle.hub_valid.specs.Validity.{Lived, IsValidEntry}
use Rattle.hub_valid.specs.Lemmas.Plans.{GoesOn, goes_on_all_turned}
use Rattle.hub_laws.proofs.EndingActors.{ended_other}
use Rattle.hub_laws.proofs.Leaving.{one_or_not}
use Rattle.hub_laws.proofs.Posting.{inbox_changed, found-with_inbox, found-with_inbox_other}
use Rattle.hub_cascade.proofs.Ends.{IsAsBefore, over_as_before, unless_named}
use Rattle.hub_core.specs.Work.{is_waited_for}

-- ---- batches are posted

some_first : (bs : List Batch) (b : Batch) → is_some (slice_get (bs ++ b ∷ []) 0) ≡ true
some_first [] b = refl
some_first (c ∷ cs) b = refl

-- an actor gets a batch: one waits for it, if it is live
pushed_itself : (c : ℕ) (b : Batch) (t : TableState) → is_some (first_batch c (pushed c b t)) ≡ false
    → find_actor c (pushed c b t).actors ≡ find_actor c t.actors
pushed_itself c b t =
    subst (λ (o : Option Actor). is_some (first_in o) ≡ false → o ≡ find_actor c t.actors)
    (sym (found-with_inbox c (λ bs. bs ++ b ∷ []) t.actors)) (by (find_actor c t.actors))
  where
    by : (o : Option Actor) → is_some (first_in (inbox_changed (λ bs. bs ++ b ∷ []) o)) ≡ false
        → inbox_changed (λ bs. bs ++ b ∷ []) o ≡ o
    by None idle = refl
    by (Some x) idle = let clash : true ≡ false = sym (some_first x.inbox b) ∙ idle in absurd cc

pushed_idle : (c a : ℕ) (b : Batch) (t : TableState) → is_some (first_batch c (pushed a b t)) ≡ false
    → find_actor c (pushed a b t).actors ≡ find_actor c t.actors
pushed_idle c a b t idle = elim (one_or_not c a) [
  | inl same ↦
      subst (λ (i : ℕ). is_some (first_batch c (pushed i b t)) ≡ false
      → find_actor c (pushed i b t).actors ≡ find_actor c t.actors) same (pushed_itself c b t) idle
  | inr apart ↦ found-with_inbox_other a c (λ bs. bs ++ b ∷ []) t.actors apart
]

idle_from : (x y : Option Actor) → x ≡ y → is_some (first_in x) ≡ false → is_some (first_in y) ≡ false
idle_from x y is none = sym (ap (λ (z : Option Actor). is_some (first_in z)) is) ∙ none

posted_idle : (c from : ℕ) (out : Outbox) (t : TableState) → is_some (first_batch c (posted from out t)) ≡ false
    → find_actor c (posted from out t).actors ≡ find_actor c t.actors
posted_idle c from [] t idle = refl
posted_idle c from (o ∷ os) t idle = by (posted_idle c from os (pushed o.0 batch t) idle)
  where
    batch : Batch
    batch = record { from = from; events = o.1 }

    by : find_actor c (posted from os (pushed o.0 batch t)).actors ≡ find_actor c (pushed o.0 batch t).actors
        → find_actor c (posted from os (pushed o.0 batch t)).actors ≡ find_actor c t.actors
    by later = later ∙ pushed_idle c o.0 batch t (idle_from _ _ later idle)

-- whoever else goes
pub ended_idle : (c a : ℕ) (w : WorldState) → c ≢ a → is_some (first_batch c (ended_of a w).table) ≡ false
    → is_some (first_batch c w.table) ≡ false
ended_idle c a w apart = by (is_live a w.table)
  where
    by : (b : Bool) → is_some (first_batch c (cond b (gone a w) w).table) ≡ false
        → is_some (first_batch c w.table) ≡ false
    by true idle =
        let same : find_actor c (gone a w).table.actors ≡ find_actor c w.table.actors =
        posted_idle c a (retractions (rows_of a w.table.rows) []) (ended a w.table) idle
        ∙ ended_other a c w.table apart in
        idle_from _ _ same idle
    by false idle = idle

-- ---- a system actor takes its batch

abbrev pub less : ℕ → WorldState → WorldState
less a w = record w { table = popped a w.table }

-- s once it did
abbrev pub ran : ℕ → Batch → State → State
ran a b s = record s { world = (system_turn a b (less a s.world)).world }

module _ (j a : ℕ) (b : Batch) (s : State) (apart : actor_of j ≢ a) (idle : is_waited_for j (ran a b s) ≡ false) where
  abbrev turning : Turning
  turning =
      all_turned (behaviour_of s.world.schema s.world.bindings s.world.watches a) a b.from b.events
      (begin_turn a (less a s.world))

  on : GoesOn (popped a s.world.table) turning.plan.table
  on =
      goes_on_all_turned (behaviour_of s.world.schema s.world.bindings s.world.watches a) a b.from b.events
      (begin_turn a (less a s.world))

  same : find_actor (actor_of j) (ran a b s).world.table.actors ≡ find_actor (actor_of j) s.world.table.actors
  same =
      posted_idle (actor_of j) a turning.plan.out turning.plan.table idle
      ∙ ap (find_actor (actor_of j)) on.actors
      ∙ found-with_inbox_other a (actor_of j) (drop 1) s.world.table.actors apart

  -- for whom nothing waits then nothing waited before
  pub ran_idle : is_waited_for j s ≡ false
  ran_idle = idle_from _ _ same idle

  ran_as_before : IsAsBefore j s (ran a b s)
  ran_as_before = record {
    live = ap (λ (o : Option Actor). is_some o) same;
    names = refl;
    load = ap (λ (o : Option Actor).
        both (load_got (values_of (held_by (actor_of j) s.world))) (load_waiting (inbox_of o))) same;
  }

  pub ran_within : overrun_of j s ≡ None → overrun_of j (ran a b s) ≡ None
  ran_within within = over_as_before j s (ran a b s) ran_as_before ∙ within

-- ---- connections count from 1

pub zeroth : (n : Lived) (names : List (ℕ × PortsState)) → AllByRecursion (IsValidEntry n) names → entry_of 0 names ≡ None
zeroth n [] all = refl
zeroth n (e ∷ es) all = by (is_at (nat_cmp 0) e.0) refl (zeroth n es all.1)
  where
    by : (c : Bool) → is_at (nat_cmp 0) e.0 ≡ c → entry_of 0 es ≡ None → cond c (Some e.1) (entry_of 0 es) ≡ None
    by true here later = let come : 1 ≤ e.0 = all.0.0.0 in absurd (grind (arith, nat_tests, here, come))
    by false past later = later

-- the last watcher has the number that a connection 0 would have
pub none_at : (j a : ℕ) (s : State) → a < 17 → entry_of 0 s.connections ≡ None → actor_of j ≡ a → overrun_of j s ≡ None
none_at j a s low none same =
    let zero_is : 0 ≡ j = omega (arith, low, same) in
    unless_named j s (ap (λ i. entry_of i s.connections) (sym zero_is) ∙ none)
