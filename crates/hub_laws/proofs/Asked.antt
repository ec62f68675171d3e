-- More of what the parts of the proof of the laws promise one another.
use Rattle.std.proofs.Common.{◌≡◌, ◌≢◌, ℕ, ◌<◌, List, [], ◌∷◌, Option, Some}
use Rattle.std.specs.List.{AllByRecursion}
use Rattle.std.specs.List.Sorted.{IsStrictlySortedBy}
use Rattle.std.specs.Ordering.{nat_cmp}
use Rattle.pv_value.specs.Plain.{Plain}
use Rattle.ac_table.specs.declared.batches.Row.{Row}
use Rattle.ac_table.specs.declared.batches.Batch.{Batch}
use Rattle.ac_table.specs.Tables.{TableState, IsTable, find_actor, find_row, handles, joined}
use Rattle.ac_table.specs.Tables.{rows_of_others}
use Rattle.ac_world.specs.Behaviours.{Behaviour}
use Rattle.ac_world.specs.declared.watched.Watched.{Watched}
use Rattle.ac_world.specs.Worlds.{Resident}
use Rattle.hub_laws.specs.Standing.{took_all}
use Rattle.hub_laws.specs.Wanting.{IsMet}
use Rattle.hub_laws.proofs.Kept.{IsServedBy}

-- wants are met over any rows in which the actor's own are the same
abbrev pub MetKept : Type 0
MetKept =
    (y : Behaviour) (o : Option Watched) (a : ℕ) (resident : Resident) (old new : List Row) → IsMet y o a resident old
    → ((h : ℕ) (r : Row) → r.owner ≡ a → find_row h old ≡ Some r → find_row h new ≡ Some r)
    → ((h : ℕ) (r : Row) → r.owner ≡ a → find_row h new ≡ Some r → find_row h old ≡ Some r) → IsMet y o a resident new

abbrev pub Ascending : List Row → Type 0
Ascending rows = IsStrictlySortedBy nat_cmp (handles rows)

abbrev pub OthersFound : Type 0
OthersFound =
    (a h : ℕ) (rows : List Row) (r : Row) → Ascending rows → find_row h (rows_of_others a rows) ≡ Some r
    → (find_row h rows ≡ Some r) × (r.owner ≢ a)

abbrev pub OthersKeep : Type 0
OthersKeep =
    (a h : ℕ) (rows : List Row) (r : Row) → find_row h rows ≡ Some r → r.owner ≢ a
    → find_row h (rows_of_others a rows) ≡ Some r

-- the first batch is taken
abbrev pub PoppedServed : Type 1
PoppedServed =
    (X : Type 0) (f : ℕ → Plain → X) (ends : List ℕ) (rows : List Row) (next a : ℕ) (got : List (ℕ × X))
    (b : Batch) (rest : List Batch) → IsServedBy f ends rows next a got (b ∷ rest)
    → IsServedBy f ends rows next a (took_all f b.events got) rest

-- an actor more, above all others
abbrev pub JoinedTable : Type 0
JoinedTable =
    (a : ℕ) (t : TableState) → IsTable t → AllByRecursion (λ x. x.number < a) t.actors
    → IsTable (joined a t) × (find_actor a (joined a t).actors ≡ Some (record { number = a; inbox = [] }))
    × ((b : ℕ) → b ≢ a → find_actor b (joined a t).actors ≡ find_actor b t.actors)
