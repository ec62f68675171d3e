-- The first world is valid, and each change that the hub asks for keeps a world valid.
use Rattle.std.proofs.Common.{◌≡◌, ℕ, zero, suc, ◌+◌, ◌<◌, List, [], ◌∷◌, ◌++◌, Bool, true, false, cond, arith}
use Rattle.std.proofs.Common.{length}
use Rattle.std.proofs.lemmas.List.{length-append}
use Rattle.std.specs.List.{AllByRecursion}
use Rattle.gk_sturdy.specs.declared.bound.Binding.{Binding}
use Rattle.gk_sturdy.specs.Bindings.{bound}
use Rattle.ps_schema.specs.declared.Definition.{Definition}
use Rattle.ac_table.specs.Tables.{TableState, rows_of, joined, ended}
use Rattle.ac_world.specs.declared.acts.Act.{Act}
use Rattle.ac_world.specs.declared.acts.Act.TheVariants as act
use Rattle.ac_world.specs.declared.watched.Watched.{Watched}
use Rattle.ac_world.specs.Watchers.{next_watcher, observation_by}
use Rattle.ac_world.specs.Outboxes.{plan_over, all_acted, retractions}
use Rattle.ac_world.specs.Worlds.{WorldState, actor_of, first_actors, beginning, binding, arrived, sent, watching, gone}
use Rattle.ac_world.specs.Lemmas.Entries.{each_without}
use Rattle.hub_valid.specs.Lemmas.Filtered.{all_kept}
use Rattle.hub_valid.specs.Validity.{Lived, lived, IsValidRow, IsValidResident, AreValidDeliveries, IsValidAct}
use Rattle.hub_valid.specs.Validity.{IsValidBinding, IsValidWatch, IsValidWorld}
use Rattle.hub_valid.specs.Lemmas.Values.{all_weaker, all_append, IsWithin}
use Rattle.hub_valid.specs.Lemmas.Watchers.{observed_valid}
use Rattle.hub_valid.specs.Lemmas.WorldTables.{IsValidTable, later_resident, later_deliveries, rows_later}
use Rattle.hub_valid.specs.Lemmas.WorldTables.{inboxes_later}
use Rattle.hub_valid.specs.Lemmas.WorldTables.{later_binding, joined_valid, ended_valid}
use Rattle.hub_valid.specs.Lemmas.WorldPlans.{retractions_valid, posted_valid, begin_valid, all_acted_valid}
use Rattle.hub_valid.specs.Lemmas.WorldPlans.{committed_valid}

-- ---- a world's table

pub table_of : (w : WorldState) → IsValidWorld w → IsValidTable (lived w) w.table
table_of w v = record { rows = v.rows; inboxes = v.inboxes }

-- a world with a valid table, whose actors have got objects
pub world_with : (w : WorldState) → IsValidTable (lived w) w.table
    → AllByRecursion (IsValidResident (lived w)) w.residents
    → AllByRecursion (AreValidDeliveries (lived w)) w.held
    → AllByRecursion (IsValidBinding (lived w)) w.bindings → AllByRecursion IsValidWatch w.watches → IsValidWorld w
world_with w t got held bound watched =
    record { rows = t.rows; inboxes = t.inboxes; got = got; held = held; bound = bound; watched = watched }

-- ---- the first world

first_actors_valid : (n : Lived) (k : ℕ) → IsValidTable n (first_actors k)
first_actors_valid n zero = record { rows = tt; inboxes = tt }
first_actors_valid n (suc k) = joined_valid n k (first_actors k) (first_actors_valid n k)

pub beginning_valid : (ds : List Definition) → IsValidWorld (beginning ds)
beginning_valid ds =
    world_with (beginning ds) (first_actors_valid (lived (beginning ds)) 9) (tt, tt) tt tt tt

-- ---- its changes

later_table : (m n : Lived) (t : TableState) → IsValidTable m t → IsWithin m n → IsValidTable n t
later_table m n t v l = record {
  rows = rows_later m n t.next t.next t.rows l (omega arith) v.rows;
  inboxes = inboxes_later m n t.next t.next t.actors l (omega arith) v.inboxes;
}

-- another actor is live, and no less was made or has come
module _ (w u : WorldState) (l : IsWithin (lived w) (lived u)) (v : IsValidWorld w) where
  later_got : AllByRecursion (IsValidResident (lived u)) w.residents
  later_got =
      all_weaker (IsValidResident (lived w)) (IsValidResident (lived u)) (λ e. later_resident (lived w) (lived u) e l)
      w.residents v.got

  later_held : AllByRecursion (AreValidDeliveries (lived u)) w.held
  later_held =
      all_weaker (AreValidDeliveries (lived w)) (AreValidDeliveries (lived u))
      (λ e. later_deliveries (lived w) (lived u) e l) w.held v.held

  later_bound : AllByRecursion (IsValidBinding (lived u)) w.bindings
  later_bound =
      all_weaker (IsValidBinding (lived w)) (IsValidBinding (lived u)) (λ b. later_binding (lived w) (lived u) b l)
      w.bindings v.bound

  later_joined : (a : ℕ) → IsValidTable (lived u) (joined a w.table)
  later_joined a = joined_valid (lived u) a w.table (later_table (lived w) (lived u) w.table (table_of w v) l)

pub arrived_valid : (w : WorldState) → IsValidWorld w → IsValidWorld (arrived w)
arrived_valid w v =
    let u : WorldState = arrived w in
    let l : IsWithin (lived w) (lived u) = (omega arith, omega arith) in
    world_with u (later_joined w u l v (actor_of (w.opened + 1))) (later_got w u l v) (later_held w u l v)
    (later_bound w u l v) v.watched

pub sent_valid : (a : ℕ) (acts : List Act) (w : WorldState) → AllByRecursion (IsValidAct (lived w)) acts
    → IsValidWorld w → IsValidWorld (sent a acts w)
sent_valid a acts w fit v = world_with (sent a acts w)
    (committed_valid (lived w) a (all_acted a acts (plan_over w.table))
    (all_acted_valid (lived w) a acts (plan_over w.table) fit (begin_valid (lived w) w.table (table_of w v))))
    v.got v.held v.bound v.watched

pub gone_valid : (a : ℕ) (w : WorldState) → IsValidWorld w → IsValidWorld (gone a w)
gone_valid a w v = world_with (gone a w)
    (posted_valid (lived w) a (retractions (rows_of a w.table.rows) []) (ended a w.table)
    (ended_valid (lived w) a w.table (table_of w v))
    (retractions_valid (lived w) w.table.next (rows_of a w.table.rows) []
    (all_kept (IsValidRow (lived w) w.table.next) _ w.table.rows v.rows) tt))
    (each_without (IsValidResident (lived w)) a w.residents v.got)
    (each_without (AreValidDeliveries (lived w)) a w.held v.held) v.bound v.watched

-- a reference that is bound
pub binding_valid : (b : Binding) (w : WorldState) → IsValidBinding (lived w) b → IsValidWorld w
    → IsValidWorld (binding b w)
binding_valid b w valid v =
    world_with (binding b w) (table_of w v) v.got v.held (by (bound b.oid w.bindings)) v.watched
  where
    by : (c : Bool) → AllByRecursion (IsValidBinding (lived w)) (cond c w.bindings (w.bindings ++ b ∷ []))
    by true = v.bound
    by false = all_append (IsValidBinding (lived w)) w.bindings (b ∷ []) v.bound (valid, tt)

-- a watcher that begins, where there are fewer than eight
abbrev with_watcher : Watched → WorldState → WorldState
with_watcher x w = record w { watches = w.watches ++ x ∷ []; table = joined (next_watcher w.watches) w.table }

pub watching_valid : (x : Watched) (w : WorldState) → length w.watches < 8 → IsValidWatch x → IsValidWorld w
    → IsValidWorld (watching x w)
watching_valid x w few valid v =
    sent_valid a (act.Assert x.from 0 (observation_by a x.pattern) ∷ []) u
    (observed_valid (lived u) a x near (omega (arith, more)) valid, tt)
    (world_with u (later_joined w u l v a) (later_got w u l v) (later_held w u l v) (later_bound w u l v)
    (all_append IsValidWatch w.watches (x ∷ []) v.watched (valid, tt)))
  where
    a : ℕ
    a = next_watcher w.watches

    u : WorldState
    u = with_watcher x w

    more : length (w.watches ++ x ∷ []) ≡ length w.watches + 1
    more = length-append w.watches (x ∷ [])

    near : a < 17
    near = omega (arith, few)

    l : IsWithin (lived w) (lived u)
    l = (omega arith, omega (arith, more))
