-- The world: live actors and their inboxes, rows, and what was delivered to whom.
use Rattle.std.specs.Prelude.{ℕ, zero, suc, ◌+◌, List, [], ◌∷◌, ◌++◌, Bool, ◌&&◌, nat_lt, nat_le, Option, unwrap_or}
use Rattle.std.specs.Prelude.{◌≡◌, ◌<◌, ◌≤◌, true, if◌then◌else◌}
use Rattle.std.specs.List.{AllByRecursion}
use Rattle.std.specs.Map.{lookup, remove_entry}
use Rattle.std.specs.BTreeMap.{insert_entry, is_at}
use Rattle.std.specs.Ordering.{nat_cmp}
use Rattle.pv_value.specs.Plain.{Plain}
use Rattle.ps_schema.specs.declared.Definition.{Definition}
use Rattle.ds_space.specs.Spaces.{Rows}
use Rattle.gk_sturdy.specs.declared.bound.Binding.{Binding}
use Rattle.gk_sturdy.specs.Bindings.{with_binding}
use Rattle.ac_table.specs.declared.batches.Event.{Event}
use Rattle.ac_table.specs.declared.batches.Event.TheVariants.{Assert, Retract, Message, Sync}
use Rattle.ac_table.specs.Tables.{TableState, opening, joined, is_live, tree_of, ended, rows_of}
use Rattle.ac_world.specs.Allocating.{Facets, IsRooted, AreOwnFacets}
use Rattle.ac_world.specs.Outboxes.{plan_over, all_acted, committed, retractions, posted}
use Rattle.ac_world.specs.declared.acts.Act.{Act}
use Rattle.ac_world.specs.declared.acts.Act.TheVariants as act
use Rattle.ac_world.specs.Watchers.{Watched, next_watcher, observation_by}
pub use Rattle.ac_world.specs.declared.held.Held.{Held}

-- ---- actors: 0 is the gatekeeper, 1 to 8 are the dataspaces, 9 to 16 the watchers, 16 + k is connection k

abbrev pub is_system : ℕ → Bool
is_system a = nat_lt a 17

abbrev pub is_space : ℕ → Bool
is_space a = nat_le 1 a && nat_lt a 9

abbrev pub actor_of : ℕ → ℕ
actor_of k = 16 + k

-- ---- the state

-- A system actor: the rows that were delivered to it, a handle and a value each; for each key that it wants, and that
-- its reference's caveats let pass, the handle of its own row for it; and for each group of such keys its facet.
pub record Resident : Type 0 where
  pub got : Rows
  pub handles : List (Plain × ℕ)
  pub facets : Facets

-- the gatekeeper's part: what is bound, and the rows that were delivered to it
pub record Gatekeeping : Type 0 where
  pub bindings : List Binding
  pub got : Rows

-- what was delivered to a connection, by handle
abbrev pub Deliveries : Type 0
Deliveries = List (ℕ × Held)

-- The schema is what guards judge by; no change of the world changes it. The watches are the watchers that were ever
-- made, actor 9 first. The table has the next handle, the rows, and the live actors with their inboxes. A dataspace or
-- a watcher to which nothing was ever delivered may stand in no list, and so may a connection.
pub record WorldState : Type 0 where
  pub opened : ℕ
  pub schema : List Definition
  pub bindings : List Binding
  pub watches : List Watched
  pub table : TableState
  pub residents : List (ℕ × Resident)
  pub held : List (ℕ × Deliveries)

abbrev pub entry_of : {X : Type 0} → ℕ → List (ℕ × X) → Option X
entry_of a es = lookup (is_at (nat_cmp a)) es

abbrev pub with_entry : {X : Type 0} → ℕ → X → List (ℕ × X) → List (ℕ × X)
with_entry a x es = insert_entry nat_cmp es a x

abbrev pub without_entry : {X : Type 0} → ℕ → List (ℕ × X) → List (ℕ × X)
without_entry a es = remove_entry (is_at (nat_cmp a)) es

abbrev pub no_resident : Resident
no_resident = record { got = []; handles = []; facets = [] }

abbrev pub resident_of : ℕ → WorldState → Resident
resident_of a w = unwrap_or (entry_of a w.residents) no_resident

abbrev pub held_by : ℕ → WorldState → Deliveries
held_by a w = unwrap_or (entry_of a w.held) []

-- ---- its opening

abbrev pub first_actors : ℕ → TableState
first_actors zero = opening
first_actors (suc n) = joined n (first_actors n)

-- guards judge by this schema; the gatekeeper and the dataspaces are live
abbrev pub beginning : List Definition → WorldState
beginning ds = record {
  opened = 0;
  schema = ds;
  bindings = [];
  watches = [];
  table = first_actors 9;
  residents = (0, no_resident) ∷ [];
  held = [];
}

-- ---- deliveries

-- what an actor has got after one more event
abbrev pub delivered : Event → Deliveries → Deliveries
delivered (Assert h entity v) got = with_entry h (record { entity = entity; value = v }) got
delivered (Retract h entity) got = without_entry h got
delivered (Message entity v) got = got
delivered (Sync entity peer) got = got

abbrev pub all_delivered : List Event → Deliveries → Deliveries
all_delivered [] got = got
all_delivered (e ∷ es) got = all_delivered es (delivered e got)

-- ---- the changes that the hub asks for

-- a reference is bound, where its oid isn't
abbrev pub binding : Binding → WorldState → WorldState
binding b w = record w { bindings = with_binding b w.bindings }

-- the next connection is live
abbrev pub arrived : WorldState → WorldState
arrived w = record w { opened = w.opened + 1; table = joined (actor_of (w.opened + 1)) w.table }

-- an actor does these acts in order
abbrev pub sent : ℕ → List Act → WorldState → WorldState
sent a acts w = record w { table = committed a (all_acted a acts (plan_over w.table)) }

-- the next watcher is live, and observes
abbrev pub watching : Watched → WorldState → WorldState
watching x w =
    sent (next_watcher w.watches)
    (act.Assert x.from 0 (observation_by (next_watcher w.watches) x.pattern) ∷ []) (record w {
      watches = w.watches ++ x ∷ [];
      table = joined (next_watcher w.watches) w.table;
    })

-- an actor goes with its rows, its inbox and what it has got; each live target is told of its rows there, in one batch
abbrev pub gone : ℕ → WorldState → WorldState
gone a w = record w {
  table = posted a (retractions (rows_of a w.table.rows) []) (ended a w.table);
  residents = without_entry a w.residents;
  held = without_entry a w.held;
}

-- one that isn't live changes nothing
abbrev pub ended_of : ℕ → WorldState → WorldState
ended_of a w = if is_live a w.table then gone a w else w

-- ---- what is true of every world

-- no actor's number is above those of the connections that were opened, and none of the system's above those of the
-- watchers that were made
abbrev pub IsNumbered : ℕ → List Watched → ℕ → Type 0
IsNumbered opened ws a = (a ≤ 16 + opened) × (a < 17 → a < next_watcher ws)

abbrev pub IsWorld : ℕ → List Watched → TableState → Type 0
IsWorld opened ws t = AllByRecursion (λ x. IsNumbered opened ws x.number) t.actors

-- each live actor has its facets, and each system actor those of its groups
pub record HaveOwnFacets (t : TableState) (residents : List (ℕ × Resident)) : Type 0 where
  pub rooted : (a : ℕ) → is_live a t ≡ true → IsRooted (tree_of a t)
  pub own_facets : (a : ℕ) → a < 17 → is_live a t ≡ true
      → AreOwnFacets (unwrap_or (entry_of a residents) no_resident).facets (tree_of a t)
