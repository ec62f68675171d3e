-- What is counted and weighed. Each sum that is told ends at the greatest 64-bit number.
use Rattle.std.specs.Prelude.{ℕ, zero, suc, ◌+◌, ◌-◌, ◌^◌, min, List, [], ◌∷◌, ◌==◌, Option, Some, None}
use Rattle.std.specs.Prelude.{if◌then◌else◌}
use Rattle.pv_value.specs.Weight.{weight}
use Rattle.ac_table.specs.Tables.{Row, Event, Assert, Retract, Message, Sync, Batch, Actor, TableState, find_actor}
use Rattle.ac_table.specs.Tables.{rows_of}
pub use Rattle.ac_table.specs.declared.loads.Load.{Load}

abbrev pub nothing : Load
nothing = record { count = 0; weight = 0 }

abbrev pub one : ℕ → Load
one w = record { count = 1; weight = w }

abbrev pub both : Load → Load → Load
both x y = record { count = x.count + y.count; weight = x.weight + y.weight }

abbrev pub top : ℕ → ℕ
top n = min n (2 ^ 64 - 1)

abbrev pub top_load : Load → Load
top_load x = record { count = top x.count; weight = top x.weight }

-- an assertion and a message weigh what their values weigh, a sync what its peer weighs; retractions don't count
abbrev pub load_of : Event → Load
load_of (Assert h entity v) = one (weight v)
load_of (Retract h entity) = nothing
load_of (Message entity v) = one (weight v)
load_of (Sync entity peer) = one (weight peer)

abbrev pub load_in : List Event → Load
load_in [] = nothing
load_in (e ∷ es) = both (load_of e) (load_in es)

abbrev pub load_from : ℕ → List Batch → Load
load_from a [] = nothing
load_from a (b ∷ bs) = both (if b.from == a then load_in b.events else nothing) (load_from a bs)

abbrev pub load_waiting : List Batch → Load
load_waiting [] = nothing
load_waiting (b ∷ bs) = both (load_in b.events) (load_waiting bs)

abbrev pub inbox_of : Option Actor → List Batch
inbox_of None = []
inbox_of (Some x) = x.inbox

-- what waits for an actor
abbrev pub load_for : ℕ → TableState → Load
load_for a t = load_waiting (inbox_of (find_actor a t.actors))

-- what of an actor's waits for another
abbrev pub load_sent : ℕ → ℕ → TableState → Load
load_sent a to t = load_from a (inbox_of (find_actor to t.actors))

-- what of an actor's waits in the inboxes of the actors below n
abbrev pub load_below : ℕ → ℕ → TableState → Load
load_below a zero t = nothing
load_below a (suc n) t = both (load_below a n t) (load_from a (inbox_of (find_actor n t.actors)))

abbrev pub weight_of_rows : List Row → ℕ
weight_of_rows [] = 0
weight_of_rows (r ∷ rs) = weight r.value + weight_of_rows rs

-- what the values of an actor's rows weigh together
abbrev pub weight_owned : ℕ → TableState → ℕ
weight_owned a t = weight_of_rows (rows_of a t.rows)

-- ---- what is kept of a sum: each member ends at the greatest 64-bit number, and their sum ends nowhere

abbrev pub sum_of : {X : Type 0} → (X → ℕ) → List X → ℕ
sum_of f [] = 0
sum_of f (x ∷ xs) = top (f x) + sum_of f xs

abbrev pub sums_of : {X : Type 0} → (X → Load) → List X → Load
sums_of f xs = record { count = sum_of (λ x. (f x).count) xs; weight = sum_of (λ x. (f x).weight) xs }

abbrev pub load_of_batch : Batch → Load
load_of_batch b = load_in b.events

abbrev pub load_if_from : ℕ → Batch → Load
load_if_from a b = if b.from == a then load_in b.events else nothing
