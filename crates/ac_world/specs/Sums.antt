-- What is counted and weighed of an actor. Each sum ends at the greatest 64-bit number.
use Rattle.std.specs.Prelude.{ℕ, List, [], ◌∷◌, Option, Some, None}
use Rattle.std.specs.Map.{values_of}
use Rattle.pv_value.specs.Weight.{weight}
use Rattle.ac_table.specs.Tables.{rows_of, find_actor}
use Rattle.ac_table.specs.declared.loads.Load.{Load}
use Rattle.ac_table.specs.Sums.{nothing, one, both, top, load_waiting, inbox_of, load_below, weight_of_rows, sum_of}
use Rattle.ac_world.specs.Worlds.{WorldState, Held, Deliveries, held_by}

-- what of an actor's waits for system actors
abbrev pub backlog : ℕ → WorldState → Load
backlog a w = load_below a 17 w.table

abbrev pub load_got : List Held → Load
load_got [] = nothing
load_got (x ∷ xs) = both (one (weight x.value)) (load_got xs)

-- what is kept of the weight of deliveries: each at most the greatest 64-bit number
abbrev pub sum_of_held : Deliveries → ℕ
sum_of_held got = sum_of (λ x. weight x.value) (values_of got)

abbrev pub weight_found : Option Held → ℕ
weight_found None = 0
weight_found (Some x) = top (weight x.value)

-- what an actor has got, and what waits for it
abbrev pub deliveries : ℕ → WorldState → Load
deliveries a w = both (load_got (values_of (held_by a w))) (load_waiting (inbox_of (find_actor a w.table.actors)))

abbrev pub row_weight : ℕ → WorldState → ℕ
row_weight a w = weight_of_rows (rows_of a w.table.rows)
