-- What comes to an actor that stays: batches whose assertions ascend, from the old next handle on.
use Rattle.std.proofs.Common.{◌≡◌, ◌≢◌, ℕ, ◌+◌, ◌≤◌, ◌<◌, ◌==◌, List, [], ◌∷◌, ◌++◌, Bool, true, false}
use Rattle.std.proofs.Common.{cond, Option, Some, None, inl, inr, refl, sym, ap, ◌∙◌, subst, arith, append-nil}
use Rattle.std.specs.Prelude.{unwrap_or}
use Rattle.std.specs.List.{AllByRecursion}
use Rattle.std.specs.List.Sorted.{IsStrictlySortedBy}
use Rattle.std.specs.Ordering.{nat_cmp}
use Rattle.ac_table.specs.declared.batches.Row.{Row}
use Rattle.ac_table.specs.declared.batches.Event.{Event}
use Rattle.ac_table.specs.declared.batches.Event.TheVariants.{Retract, Message, Sync}
use Rattle.ac_table.specs.declared.batches.Batch.{Batch}
use Rattle.ac_table.specs.Tables.{TableState, Actor, IsTable, find_actor, is_live, joined, ended, rows_of, first_batch}
use Rattle.ac_world.specs.declared.acts.Act.{Act}
use Rattle.ac_world.specs.declared.acts.Act.TheVariants as act
use Rattle.ac_world.specs.declared.turns.Turned.TheVariants.{Gone}
use Rattle.ac_world.specs.Outboxes.{Outbox, Plan, plan_over, told, told_to, posted, retractions, acted, all_acted}
use Rattle.ac_world.specs.Turns.{After as TurnOf, connection_turn, turn_with, turn_first, turn, system_turn}
use Rattle.ac_world.specs.Turns.{deliver}
use Rattle.ac_world.specs.Worlds.{WorldState, held_by, without_entry, is_system, actor_of, all_delivered}
use Rattle.ac_world.specs.Worlds.{arrived, sent, watching, gone, ended_of}
use Rattle.ac_world.specs.declared.watched.Watched.{Watched}
use Rattle.ac_world.specs.Watchers.{next_watcher, observation_by}
use Rattle.ac_world.specs.Lemmas.Entries.{put_other, out_other, KeysAscend, ascend_none}
use Rattle.hub_laws.proofs.Committing.{done_in}
use Rattle.hub_laws.proofs.EndingActors.{retractions_ascend, ended_none, ended_other}
use Rattle.hub_laws.proofs.Joining.{joined_is_table, joined_live, joined_other}
use Rattle.hub_laws.proofs.Kept.{made_in, IsLog, IsSound, Moves}
use Rattle.hub_laws.proofs.Leaving.{one_or_not}
use Rattle.hub_laws.proofs.Moving.{made_in-told, begin_moves, put_moves, dropped_moves, said_moves}
use Rattle.hub_laws.proofs.Posting.{posted_to, posted_table, found-popped_other}
use Rattle.hub_laws.proofs.Serving.{events_posted, log_posted}
use Rattle.hub_laws.proofs.Turns.{without_first, turning_of, system_after, system_runs}

-- The actor b, found as x in the later world, was there in the earlier one. It has taken nothing since, and what came
-- to its inbox goes on from the handles of before.
pub record IsStill (b : ℕ) (old new : WorldState) (x : Actor) : Type 0 where
  pub before : Actor
  pub found : find_actor b old.table.actors ≡ Some before
  pub held : held_by b new ≡ held_by b old
  pub log : (got : List ℕ) → IsLog old.table.next got before.inbox → IsLog new.table.next got x.inbox

pub record Grows (b : ℕ) (old new : WorldState) : Type 0 where
  pub opened : old.opened ≤ new.opened
  pub still : (x : Actor) → find_actor b new.table.actors ≡ Some x → IsStill b old new x

pub grows_not : (b : ℕ) (w : WorldState) → Grows b w w
grows_not b w = record {
  opened = omega arith;
  still = λ x found. record { before = x; found = found; held = refl; log = λ got log. log };
}

pub grows_on : (b : ℕ) (w u v : WorldState) → Grows b w u → Grows b u v → Grows b w v
grows_on b w u v g h = record {
  opened = omega (arith, g.opened, h.opened);
  still = λ x found.
      let later : IsStill b u v x = h.still x found in
      let sooner : IsStill b w u later.before = g.still later.before later.found in
      record {
        before = sooner.before;
        found = sooner.found;
        held = later.held ∙ sooner.held;
        log = λ got log. later.log got (sooner.log got log);
      };
}

-- a change that the actor doesn't feel
pub grows_alike : (b : ℕ) (w u : WorldState) → w.opened ≤ u.opened → u.table.next ≡ w.table.next
    → find_actor b u.table.actors ≡ find_actor b w.table.actors → held_by b u ≡ held_by b w → Grows b w u
grows_alike b w u more next found held = record {
  opened = more;
  still = λ x is. record {
    before = x;
    found = sym found ∙ is;
    held = held;
    log = λ got log. subst (λ n. IsLog n got x.inbox) (sym next) log;
  };
}

-- ---- events are posted

posted_grows : (from b : ℕ) (out : Outbox) (t : TableState) (w u : WorldState) → KeysAscend out
    → w.opened ≤ u.opened → w.table.next ≤ t.next
    → ((x : Actor) → find_actor b t.actors ≡ Some x
    → (find_actor b w.table.actors ≡ Some x) × (held_by b u ≡ held_by b w))
    → IsStrictlySortedBy nat_cmp (made_in (told_to b out))
    → AllByRecursion (λ h. (w.table.next ≤ h) × (h < t.next)) (made_in (told_to b out))
    → Grows b w (record u { table = posted from out t })
posted_grows from b out t w u ascend more later same s m = record {
  opened = more;
  still = λ x is.
      let y = posted_to from b out t x ascend is in
      let here = same y.0 y.1 in
      record {
        before = y.0;
        found = here.0;
        held = here.1;
        log = λ got log.
            subst (λ n. IsLog n got x.inbox) (sym (posted_table from out t).1)
            (log_posted w.table.next t.next got (told_to b out) y.0.inbox x.inbox later
            (events_posted from (told_to b out) y.0.inbox x.inbox y.2) s m log);
      };
}

-- a plan is done
pub done_grows : (a b : ℕ) (w : WorldState) (p : Plan) → Moves a w.table p → Grows b w (done_in w a p)
done_grows a b w p m =
    posted_grows a b p.out p.table w w m.out_ascends (omega arith) m.later
    (λ x is. (ap (find_actor b) (sym m.actors) ∙ is, refl)) (m.made_ascend b) (m.made_new b)

-- ---- an actor goes

-- retractions make nothing
retractions_make : (b : ℕ) (rs : List Row) (out : Outbox)
    → made_in (told_to b (retractions rs out)) ≡ made_in (told_to b out)
retractions_make b [] out = refl
retractions_make b (r ∷ rs) out =
    retractions_make b rs (told r.target (Retract r.handle r.entity) out)
    ∙ made_in-told b r.target (Retract r.handle r.entity) out ∙ none (r.target == b)
  where
    none : (c : Bool) → made_in (told_to b out) ++ cond c [] [] ≡ made_in (told_to b out)
    none true = append-nil _
    none false = append-nil _

pub gone_grows : (a b : ℕ) (w : WorldState) → Grows b w (gone a w)
gone_grows a b w =
    let out : Outbox = retractions (rows_of a w.table.rows) [] in
    let none : made_in (told_to b out) ≡ [] = retractions_make b (rows_of a w.table.rows) [] in
    posted_grows a b out (ended a w.table) w left
    (retractions_ascend a w.table.rows) (omega arith) (omega arith) there
    (rw none ascend_none) (rw none tt)
  where
    left : WorldState
    left = record w { residents = without_entry a w.residents; held = without_entry a w.held }

    there : (x : Actor) → find_actor b (ended a w.table).actors ≡ Some x
        → (find_actor b w.table.actors ≡ Some x) × (held_by b left ≡ held_by b w)
    there x is = elim (one_or_not b a) [
      | inl same ↦
          absurd (let gone : find_actor b (ended a w.table).actors ≡ None =
          ap (λ c. find_actor c (ended a w.table).actors) same ∙ ended_none a w.table in cc)
      | inr apart ↦
          (sym (ended_other a b w.table apart) ∙ is, ap (λ o. unwrap_or o []) (out_other a b w.held apart))
    ]

pub ended_grows : (a b : ℕ) (w : WorldState) → Grows b w (ended_of a w)
ended_grows a b w = by (is_live a w.table)
  where
    by : (c : Bool) → Grows b w (cond c (gone a w) w)
    by true = gone_grows a b w
    by false = grows_not b w

-- ---- another connection comes

pub arrived_grows : (b : ℕ) (w : WorldState) → b ≢ actor_of (w.opened + 1) → Grows b w (arrived w)
arrived_grows b w apart =
    grows_alike b w (arrived w) (omega arith) refl (joined_other (actor_of (w.opened + 1)) b w.table apart) refl

-- ---- a packet is taken

acted_moves : (a : ℕ) (t : TableState) (p : Plan) (x : Act) → is_live a t ≡ true → Moves a t p → Moves a t (acted a x p)
acted_moves a t p (act.Assert target entity v) live m = put_moves a t p m live 0 target entity v
acted_moves a t p (act.Retract h) live m = dropped_moves a t p m h
acted_moves a t p (act.Message target entity v) live m = said_moves a t p m target (Message entity v) tt
acted_moves a t p (act.Sync target entity peer) live m = said_moves a t p m target (Sync entity peer) tt

all_acted_moves : (a : ℕ) (t : TableState) (xs : List Act) (p : Plan) → is_live a t ≡ true → Moves a t p
    → Moves a t (all_acted a xs p)
all_acted_moves a t [] p live m = m
all_acted_moves a t (x ∷ xs) p live m = all_acted_moves a t xs (acted a x p) live (acted_moves a t p x live m)

pub sent_grows : (a b : ℕ) (xs : List Act) (w : WorldState) → IsTable w.table → is_live a w.table ≡ true
    → Grows b w (sent a xs w)
sent_grows a b xs w k live =
    done_grows a b w (all_acted a xs (plan_over w.table))
    (all_acted_moves a w.table xs (plan_over w.table) live (begin_moves a w.table k))

-- ---- a watcher begins

pub watching_grows : (b : ℕ) (x : Watched) (w : WorldState) → IsTable w.table
    → is_live (next_watcher w.watches) w.table ≡ false → b ≢ next_watcher w.watches → Grows b w (watching x w)
watching_grows b x w k dead apart =
    let new : ℕ = next_watcher w.watches in
    let joint : WorldState = record w { watches = w.watches ++ x ∷ []; table = joined new w.table } in
    grows_on b w joint (watching x w)
    (grows_alike b w joint (omega arith) refl (joined_other new b w.table apart) refl)
    (sent_grows new b (act.Assert x.from 0 (observation_by new x.pattern) ∷ []) joint
    (joined_is_table new w.table dead k) (joined_live new w.table dead))

-- ---- another actor takes its turn

-- it takes its batch, and gets what is in it
deliver_grows : (a b : ℕ) (es : List Event) (w : WorldState) → b ≢ a → Grows b w (deliver a es (without_first a w))
deliver_grows a b es w apart =
    grows_alike b w (deliver a es (without_first a w)) (omega arith) refl (found-popped_other a b w.table apart)
    (ap (λ o. unwrap_or o []) (put_other a b (all_delivered es (held_by a w)) w.held apart))

module _ (a b : ℕ) (w : WorldState) (k : IsSound [] w) (apart : b ≢ a) where
  system_grows : (batch : Batch) → first_batch a w.table ≡ Some batch → is_system a ≡ true → is_live a w.table ≡ true
      → Grows b w (system_turn a batch (without_first a w)).world
  system_grows batch is system live =
      let u : WorldState = system_after a batch w in
      grows_on b w u _ (grows_alike b w u (omega arith) refl (found-popped_other a b w.table apart) refl)
      (done_grows a b u (turning_of a batch w).plan (system_runs a batch w k system live is).moves)

  with_grows : (batch : Batch) → first_batch a w.table ≡ Some batch → is_live a w.table ≡ true
      → Grows b w (turn_with a batch (without_first a w)).world
  with_grows batch is live = by (is_system a) refl
    where
      by : (c : Bool) → is_system a ≡ c
          → Grows b w (cond c (system_turn a batch (without_first a w))
          (connection_turn a batch (without_first a w))).world
      by true system = system_grows batch is system live
      by false far = deliver_grows a b batch.events w apart

  first_grows : (o : Option Batch) → first_batch a w.table ≡ o → is_live a w.table ≡ true
      → Grows b w (turn_first a o w).world
  first_grows None is live = grows_not b w
  first_grows (Some batch) is live = with_grows batch is live

  pub other_turn_grows : Grows b w (turn a w).world
  other_turn_grows = by (is_live a w.table) refl
    where
      none : TurnOf
      none = record { world = w; turned = Gone }

      by : (c : Bool) → is_live a w.table ≡ c → Grows b w (cond c (turn_first a (first_batch a w.table) w) none).world
      by true live = first_grows (first_batch a w.table) refl live
      by false dead = grows_not b w
