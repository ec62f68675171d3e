-- No facets are kept of an actor that isn't live.
use Rattle.std.proofs.Common.{◌≡◌, ◌≢◌, ℕ, zero, suc, ◌+◌, ◌==◌, List, [], ◌∷◌, ◌++◌, Bool, true, false, cond}
use Rattle.std.proofs.Common.{Option, Some, None, refl, ap, sym, ◌∙◌, subst, arith, inl, inr}
use Rattle.std.proofs.lemmas.Bool.Decides.{nat_tests}
use Rattle.std.proofs.lemmas.Map.{keys-set_value}
use Rattle.std.specs.BTreeMap.{is_at}
use Rattle.std.specs.List.Sorted.{IsStrictlySortedBy}
use Rattle.std.specs.Map.{keys_of}
use Rattle.std.specs.Ordering.{nat_cmp}
use Rattle.ac_table.specs.declared.batches.Batch.{Batch}
use Rattle.ac_table.specs.Facets.{Tree, root_alone}
use Rattle.ac_table.specs.Lemmas.Entries.{lookup-set_other}
use Rattle.ac_table.specs.Maps.{KeysAscend, value_at}
use Rattle.ac_table.specs.Tables.{TableState, is_live, first_batch, joined, ended, popped, pushed, rows_of}
use Rattle.ac_world.specs.declared.acts.Act.{Act}
use Rattle.ac_world.specs.declared.acts.Act.TheVariants as act
use Rattle.ac_world.specs.declared.turns.Turned.TheVariants as turned
use Rattle.ac_world.specs.declared.watched.Watched.{Watched}
use Rattle.ac_world.specs.Lemmas.Entries.{put_other, out_other, out_gone, ascend_none, ascend_with, ascend_without}
use Rattle.ac_world.specs.Outboxes.{Outbox, Plan, plan_over, posted, committed, all_acted, retractions}
use Rattle.ac_world.specs.Turns.{After, begin_turn, all_turned, system_turn, connection_turn, turn_first, turn}
use Rattle.ac_world.specs.Behaviours.{behaviour_of}
use Rattle.ac_world.specs.Watchers.{next_watcher, observation_by}
use Rattle.ac_world.specs.Worlds.{WorldState, actor_of, first_actors, is_system, sent, watching, gone, ended_of}
use Rattle.ac_world.proofs.Numbers.{joined_live}
use Rattle.ac_world.proofs.Sparing.{IsSpared, all_acted_spared, all_turned_spared}
use Rattle.hub_machine.specs.State.{opening}
use Rattle.hub_valid.specs.Lemmas.AnyStep.{Keeps, run_keeps}
use Rattle.hub_valid.specs.Lemmas.Lasting.{lasts_sent, lasts_turn}
use Rattle.hub_valid.specs.Lemmas.Lives.{live_gone, live_placed}
use Rattle.hub_laws.proofs.Leaving.{one_or_not}
use Rattle.hub_laws.proofs.Turns.{without_first}
use Rattle.hub_facets.specs.Laws.{Leavings}

-- whether the actors' trees ascend, and none is kept of who isn't live
pub record AreLiveAlone (t : TableState) : Type 0 where
  pub ascend : KeysAscend t.trees
  pub dead : (a : ℕ) → is_live a t ≡ false → value_at a t.trees ≡ None

-- the trees stay, and so does who is live
same_trees : (t u : TableState) → u.trees ≡ t.trees → ((a : ℕ) → is_live a u ≡ is_live a t) → AreLiveAlone t
    → AreLiveAlone u
same_trees t u trees live k = record {
  ascend = subst KeysAscend (sym trees) k.ascend;
  dead = λ a is. ap (value_at a) trees ∙ k.dead a (sym (live a) ∙ is);
}

trees_posted : (from : ℕ) (out : Outbox) (t : TableState) → (posted from out t).trees ≡ t.trees
trees_posted from [] t = refl
trees_posted from (o ∷ os) t = trees_posted from os (pushed o.0 (record { from = from; events = o.1 }) t)

-- ---- an actor comes

still_live : (a : ℕ) (t : TableState) → is_live a (joined a t) ≡ true
still_live a t = joined_live a (joined a t) t refl

joined_alone : (a : ℕ) (t : TableState) → AreLiveAlone t → AreLiveAlone (joined a t)
joined_alone a t k = record {
  ascend = ascend_with a root_alone t.trees k.ascend;
  dead = λ b is. elim (one_or_not b a) [
    | inl same ↦
        absurd (let clash : true ≡ false =
        sym (still_live a t) ∙ ap (λ c. is_live c (joined a t)) (sym same) ∙ is in cc)
    | inr apart ↦
        put_other a b root_alone t.trees apart
        ∙ k.dead b (sym (live_placed b (record { number = a; inbox = [] }) t.actors apart) ∙ is)
  ];
}

first_alone : (n : ℕ) → AreLiveAlone (first_actors n)
first_alone zero = record { ascend = ascend_none; dead = λ a is. refl }
first_alone (suc n) = joined_alone n (first_actors n) (first_alone n)

-- ---- an actor does something, or begins

sent_alone : (a : ℕ) (xs : List Act) (w : WorldState) → AreLiveAlone w.table → AreLiveAlone (sent a xs w).table
sent_alone a xs w k =
    let p : Plan = all_acted a xs (plan_over w.table) in
    same_trees w.table (committed a p)
    (trees_posted a p.out p.table
    ∙ all_acted_spared (λ t. t.trees) a
    (record { row_more = λ facet target entity v t. refl; row_less = λ h t. refl }) xs (plan_over w.table))
    (lasts_sent a xs w).live k

watching_alone : (x : Watched) (w : WorldState) → AreLiveAlone w.table → AreLiveAlone (watching x w).table
watching_alone x w k =
    let new : ℕ = next_watcher w.watches in
    sent_alone new (act.Assert x.from 0 (observation_by new x.pattern) ∷ [])
    (record w { watches = w.watches ++ x ∷ []; table = joined new w.table }) (joined_alone new w.table k)

-- ---- an actor goes

gone_alone : (a : ℕ) (w : WorldState) → AreLiveAlone w.table → AreLiveAlone (gone a w).table
gone_alone a w k =
    let told : Outbox = retractions (rows_of a w.table.rows) [] in
    let trees : (gone a w).table.trees ≡ (ended a w.table).trees = trees_posted a told (ended a w.table) in
    record {
      ascend = subst KeysAscend (sym trees) (ascend_without a w.table.trees k.ascend);
      dead = λ b is. ap (value_at b) trees ∙ elim (one_or_not b a) [
        | inl same ↦
            ap (λ c. value_at c (ended a w.table).trees) same ∙ out_gone a w.table.trees k.ascend
        | inr apart ↦
            out_other a b w.table.trees apart
            ∙ k.dead b (sym (live_gone b a w ∙ ap (λ c. cond c false (is_live b w.table)) (not_same b apart)) ∙ is)
      ];
    }
  where
    not_same : (b : ℕ) → b ≢ a → (b == a) ≡ false
    not_same b apart = grind (arith, nat_tests, apart)

ended_alone : (a : ℕ) (w : WorldState) → AreLiveAlone w.table → AreLiveAlone (ended_of a w).table
ended_alone a w k = by (is_live a w.table)
  where
    by : (c : Bool) → AreLiveAlone (cond c (gone a w) w).table
    by true = gone_alone a w k
    by false = k

-- ---- an actor takes its turn

keys_spared : (a : ℕ) → IsSpared (λ t. keys_of t.trees) a
keys_spared a = record {
  rows = record { row_more = λ facet target entity v t. refl; row_less = λ h t. refl };
  facet_more = λ n t. keys-set_value (is_at (nat_cmp a)) t.trees _;
  facet_less = λ n t. keys-set_value (is_at (nat_cmp a)) t.trees _;
}

other_spared : (a b : ℕ) → (b == a) ≡ false → IsSpared (λ t. value_at b t.trees) a
other_spared a b apart = record {
  rows = record { row_more = λ facet target entity v t. refl; row_less = λ h t. refl };
  facet_more = λ n t. lookup-set_other a b _ t.trees apart;
  facet_less = λ n t. lookup-set_other a b _ t.trees apart;
}

system_alone : (a : ℕ) (b : Batch) (w : WorldState) → is_live a w.table ≡ true
    → ((c : ℕ) → is_live c (system_turn a b (without_first a w)).world.table ≡ is_live c w.table)
    → AreLiveAlone w.table → AreLiveAlone (system_turn a b (without_first a w)).world.table
system_alone a b w lives live k =
    let y = behaviour_of w.schema w.bindings w.watches a in
    let u = all_turned y a b.from b.events (begin_turn a (without_first a w)) in
    let trees = trees_posted a u.plan.out u.plan.table in
    record {
      ascend =
          subst (IsStrictlySortedBy nat_cmp)
          (sym (ap (λ (ts : List (ℕ × Tree)). keys_of ts) trees
          ∙ all_turned_spared (λ t. keys_of t.trees) a (keys_spared a) y b.from b.events
          (begin_turn a (without_first a w)))) k.ascend;
      dead = λ c is. elim (one_or_not c a) [
        | inl same ↦
            absurd (let clash : true ≡ false =
            sym lives ∙ ap (λ i. is_live i w.table) (sym same) ∙ sym (live c) ∙ is in cc)
        | inr apart ↦
            ap (value_at c) trees
            ∙ all_turned_spared (λ t. value_at c t.trees) a (other_spared a c (grind (arith, nat_tests, apart))) y b.from
            b.events (begin_turn a (without_first a w))
            ∙ k.dead c (sym (live c) ∙ is)
      ];
    }

turn_alone : (a : ℕ) (w : WorldState) → AreLiveAlone w.table → AreLiveAlone (turn a w).world.table
turn_alone a w k = by (is_live a w.table) (first_batch a w.table) refl (lasts_turn a w).live
  where
    none : After
    none = record { world = w; turned = turned.Gone }

    kind : (b : Batch) (c : Bool) → is_live a w.table ≡ true
        → ((d : ℕ) → is_live d (cond c (system_turn a b (without_first a w))
        (connection_turn a b (without_first a w))).world.table ≡ is_live d w.table)
        → AreLiveAlone
        (cond c (system_turn a b (without_first a w)) (connection_turn a b (without_first a w))).world.table
    kind b true lives live = system_alone a b w lives live k
    kind b false lives live = same_trees w.table (popped a w.table) refl live k

    by : (c : Bool) (o : Option Batch) → is_live a w.table ≡ c
        → ((d : ℕ) → is_live d (cond c (turn_first a o w) none).world.table ≡ is_live d w.table)
        → AreLiveAlone (cond c (turn_first a o w) none).world.table
    by true None lives live = k
    by true (Some b) lives live = kind b (is_system a) lives live
    by false o lives live = k

-- ---- steps

keeps_alone : Keeps (λ s. AreLiveAlone s.world.table)
keeps_alone = record {
  binds = λ b s is k. k;
  watches = λ x s is k. watching_alone x s.world k;
  opens = λ space s k. joined_alone (actor_of (s.world.opened + 1)) s.world.table k;
  fails = λ k f s there l. ended_alone (actor_of k) s.world l;
  dismisses = λ a s high low l. ended_alone a s.world l;
  closes = λ k s there l. ended_alone (actor_of k) s.world l;
  accepts = λ k x s there l. sent_alone (actor_of k) x.acts s.world l;
  exports = λ k b p s there l. l;
  turns = λ a s l. turn_alone a s.world l;
  tells = λ k s l. l;
  stops = λ s l. l;
}

pub leavings : Leavings
leavings ds steps may =
    (run_keeps (λ s. AreLiveAlone s.world.table) keeps_alone (opening ds) steps (first_alone 9)).dead
