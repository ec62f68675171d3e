-- What a turn and a packet leave: the same actors are live, as many connections have come, as many watchers were made,
-- and the next handle never goes back. And who is live once a watcher begins.
use Rattle.std.proofs.Common.{◌≡◌, ◌≢◌, ℕ, ◌≤◌, List, [], ◌∷◌, ◌++◌, Bool, true, false, cond, Option, Some, None}
use Rattle.std.proofs.Common.{refl, ap, ◌∙◌, subst, sym, arith, is_some, drop}
use Rattle.ac_table.specs.declared.batches.Batch.{Batch}
use Rattle.ac_table.specs.Tables.{TableState, find_actor, is_live, joined, first_batch, popped}
use Rattle.ac_world.specs.declared.acts.Act.{Act}
use Rattle.ac_world.specs.declared.acts.Act.TheVariants as act
use Rattle.ac_world.specs.declared.turns.Turned.TheVariants as turned
use Rattle.ac_world.specs.Outboxes.{Plan, plan_over, all_acted, committed}
use Rattle.ac_world.specs.Behaviours.{Behaviour, behaviour_of}
use Rattle.ac_world.specs.Turns.{After, begin_turn, all_turned, system_turn, connection_turn}
use Rattle.ac_world.specs.Turns.{turn_with, turn_first, turn}
use Rattle.ac_world.specs.declared.watched.Watched.{Watched}
use Rattle.ac_world.specs.Watchers.{next_watcher, observation_by}
use Rattle.ac_world.specs.Worlds.{WorldState, is_system, sent, watching}
use Rattle.hub_valid.specs.Lemmas.Lives.{live_with_inbox, live_placed, stays_placed, live_committed, next_posted}
use Rattle.hub_valid.specs.Lemmas.Plans.{GoesOn, goes_on_all_acted, goes_on_all_turned}

pub record Lasts (w u : WorldState) : Type 0 where
  pub opened : u.opened ≡ w.opened
  pub watches : u.watches ≡ w.watches
  pub live : (b : ℕ) → is_live b u.table ≡ is_live b w.table
  pub later : w.table.next ≤ u.table.next

pub lasts_same : (w : WorldState) → Lasts w w
lasts_same w = record { opened = refl; watches = refl; live = λ b. refl; later = omega arith }

pub live_popped : (b a : ℕ) (t : TableState) → is_live b (popped a t) ≡ is_live b t
live_popped b a t = live_with_inbox b a (drop 1) t.actors

-- a plan over a table is done
committed_live : (a b : ℕ) (t : TableState) (p : Plan) → GoesOn t p.table → is_live b (committed a p) ≡ is_live b t
committed_live a b t p on = live_committed b a p ∙ ap (λ xs. is_some (find_actor b xs)) on.actors

committed_later : (a : ℕ) (t : TableState) (p : Plan) → GoesOn t p.table → t.next ≤ (committed a p).next
committed_later a t p on = subst (λ n. t.next ≤ n) (sym (next_posted a p.out p.table)) on.later

pub lasts_sent : (a : ℕ) (acts : List Act) (w : WorldState) → Lasts w (sent a acts w)
lasts_sent a acts w =
    let p : Plan = all_acted a acts (plan_over w.table) in
    let on : GoesOn w.table p.table = goes_on_all_acted a acts (plan_over w.table) in
    record {
      opened = refl;
      watches = refl;
      live = λ b. committed_live a b w.table p on;
      later = committed_later a w.table p on;
    }

-- ---- a watcher begins

-- the watcher is live, and has done nothing yet
abbrev joining : Watched → WorldState → WorldState
joining x w = record w { watches = w.watches ++ x ∷ []; table = joined (next_watcher w.watches) w.table }

abbrev observing : Watched → WorldState → List Act
observing x w = act.Assert x.from 0 (observation_by (next_watcher w.watches) x.pattern) ∷ []

observed_lasts : (x : Watched) (w : WorldState) → Lasts (joining x w) (watching x w)
observed_lasts x w = lasts_sent (next_watcher w.watches) (observing x w) (joining x w)

pub live_watching : (b : ℕ) (x : Watched) (w : WorldState) → b ≢ next_watcher w.watches
    → is_live b (watching x w).table ≡ is_live b w.table
live_watching b x w ne =
    (observed_lasts x w).live b
    ∙ live_placed b (record { number = next_watcher w.watches; inbox = [] }) w.table.actors ne

-- who is live stays so
pub stays_watching : (b : ℕ) (x : Watched) (w : WorldState) → is_live b w.table ≡ true
    → is_live b (watching x w).table ≡ true
stays_watching b x w live =
    (observed_lasts x w).live b
    ∙ stays_placed b (record { number = next_watcher w.watches; inbox = [] }) w.table.actors live

pub later_watching : (x : Watched) (w : WorldState) → w.table.next ≤ (watching x w).table.next
later_watching x w = (observed_lasts x w).later

-- ---- a turn

-- the world without an actor's first batch
abbrev less : ℕ → WorldState → WorldState
less a w = record w { table = popped a w.table }

system_lasts : (a : ℕ) (b : Batch) (w : WorldState) → Lasts w (system_turn a b (less a w)).world
system_lasts a b w =
    let y : Behaviour = behaviour_of w.schema w.bindings w.watches a in
    let p : Plan = (all_turned y a b.from b.events (begin_turn a (less a w))).plan in
    let on : GoesOn (popped a w.table) p.table = goes_on_all_turned y a b.from b.events (begin_turn a (less a w)) in
    record {
      opened = refl;
      watches = refl;
      live = λ c. committed_live a c (popped a w.table) p on ∙ live_popped c a w.table;
      later = committed_later a (popped a w.table) p on;
    }

connection_lasts : (a : ℕ) (b : Batch) (w : WorldState) → Lasts w (connection_turn a b (less a w)).world
connection_lasts a b w =
    record { opened = refl; watches = refl; live = λ c. live_popped c a w.table; later = omega arith }

with_lasts : (a : ℕ) (b : Batch) (w : WorldState) → Lasts w (turn_with a b (less a w)).world
with_lasts a b w = by (is_system a)
  where
    by : (c : Bool) → Lasts w (cond c (system_turn a b (less a w)) (connection_turn a b (less a w))).world
    by true = system_lasts a b w
    by false = connection_lasts a b w

pub lasts_turn : (a : ℕ) (w : WorldState) → Lasts w (turn a w).world
lasts_turn a w = by (is_live a w.table) (first_batch a w.table)
  where
    none : After
    none = record { world = w; turned = turned.Gone }

    by : (c : Bool) (o : Option Batch) → Lasts w (cond c (turn_first a o w) none).world
    by true None = lasts_same w
    by true (Some b) = with_lasts a b w
    by false o = lasts_same w
