-- How a table is kept: rows by handle; each live actor with the handles of its rows, what they weigh, its inbox and its
-- facets; the actors for which a batch waits; and how many batches do.
use Rattle.std.specs.Prelude.{◌≡◌, ℕ, ◌+◌, length, [], ◌∷◌, Bool, false, List, map, Option, Some, None}
use Rattle.std.specs.Prelude.{IsSome, ◌<◌, ◌==◌, not, filter}
use Rattle.std.specs.Prelude.{◌&&◌}
use Rattle.std.specs.List.{AllByRecursion}
use Rattle.std.specs.Map.{values_of}
use Rattle.pv_value.specs.Weight.{weight}
use Rattle.ac_table.specs.Inboxes.{is_busy}
pub use Rattle.ac_table.specs.Maps.{value_at, is_key, KeysAscend, ChangesAt, SetChangesAt}
use Rattle.ac_table.specs.Facets.{Tree, AreBelow}
use Rattle.ac_table.specs.Placed.{tree_in, has_at}
use Rattle.ac_table.specs.Sums.{sum_of}
use Rattle.ac_table.specs.Tables.{Row, Actor, TableState, handles, rows_of, find_row, tree_of, stands_in}
use Rattle.ac_table.specs.declared.table.LiveActor.{LiveActor}

abbrev pub by_handle : Row → ℕ × Row
by_handle r = (r.handle, r)

-- a live actor, as contracts see it
abbrev pub seen : ℕ × LiveActor → Actor
seen e = record { number = e.0; inbox = e.1.inbox }

-- whether a batch waits for it
abbrev pub waits_at : Option LiveActor → Bool
waits_at None = false
waits_at (Some s) = is_busy s.inbox

-- and its tree of facets
abbrev pub tree_seen : ℕ × LiveActor → ℕ × Tree
tree_seen e = (e.0, tree_in e.1.facets)

abbrev pub state_of : ℕ → List (ℕ × Row) → List (ℕ × LiveActor) → TableState
state_of next rows actors =
    record { next = next; rows = values_of rows; actors = map seen actors; trees = map tree_seen actors }

-- each live actor has the handles of its rows
abbrev pub IsOwned : List (ℕ × LiveActor) → List Row → Type 0
IsOwned actors rows = (a : ℕ) (s : LiveActor) → value_at a actors ≡ Some s → s.own.keys ≡ handles (rows_of a rows)

-- what rows weigh, each at most the greatest 64-bit number
abbrev pub sum_of_rows : List Row → ℕ
sum_of_rows rows = sum_of (λ r. weight r.value) rows

-- each live actor has what its rows weigh
abbrev pub IsWeighed : List (ℕ × LiveActor) → List Row → Type 0
IsWeighed actors rows = (a : ℕ) (s : LiveActor) → value_at a actors ≡ Some s
    → s.row_weight ≡ sum_of_rows (rows_of a rows)

-- those are busy for which a batch waits
abbrev pub IsBusy : List ℕ → List (ℕ × LiveActor) → Type 0
IsBusy busy actors = (a : ℕ) → is_key a busy ≡ waits_at (value_at a actors)

-- rows are taken out by these handles: where they are those of the rows that pass a test, so are the rows
abbrev pub Takes : List ℕ → List Row → List Row → List Row → Type 0
Takes ks old new taken = (p : Row → Bool) → ks ≡ handles (filter p old)
    → (new ≡ filter (λ r. not (p r)) old) × (taken ≡ filter p old)

-- what goes where a facet stops
pub record AreStopping (a f : ℕ) (facets hs told : List ℕ) (t : TableState) : Type 0 where
  pub below : AreBelow f (tree_of a t) facets
  pub rows : hs ≡ handles (filter (stands_in a facets) t.rows)
  pub same : told ≡ hs

pub record IsKept (next : ℕ) (rows : List (ℕ × Row)) (actors : List (ℕ × LiveActor)) (busy : List ℕ) : Type 0 where
  pub keyed : rows ≡ map by_handle (values_of rows)
  pub rows_ascend : KeysAscend rows
  pub below : AllByRecursion (λ r. r.handle < next) (values_of rows)
  pub owners : AllByRecursion (λ r. IsSome (value_at r.owner actors)) (values_of rows)
  pub actors_ascend : KeysAscend actors
  pub owned : IsOwned actors (values_of rows)
  pub weighed : IsWeighed actors (values_of rows)
  pub busy_is : IsBusy busy actors

-- whether a row is an actor's, in a facet
abbrev pub stands_at : ℕ → ℕ → Option Row → Bool
stands_at a f None = false
stands_at a f (Some r) = r.owner == a && r.facet == f

-- each facet of a live actor has the actor's rows in it, and no row is in a facet that isn't there
abbrev pub AreStanding : List (ℕ × LiveActor) → List Row → Type 0
AreStanding actors rows = (a : ℕ) (s : LiveActor) → value_at a actors ≡ Some s
    → (f h : ℕ) → has_at f h s.facets ≡ stands_at a f (find_row h rows)

-- how many batches wait for them
abbrev pub waiting_at : List (ℕ × LiveActor) → ℕ
waiting_at [] = 0
waiting_at (e ∷ es) = length e.1.inbox + waiting_at es

-- and what is kept beside it: how many batches wait
pub record IsWhole (next : ℕ) (rows : List (ℕ × Row)) (actors : List (ℕ × LiveActor)) (busy : List ℕ) (waiting : ℕ)
    : Type 0 where
  pub kept : IsKept next rows actors busy
  pub counted : waiting ≡ waiting_at actors
  pub standing : AreStanding actors (values_of rows)
