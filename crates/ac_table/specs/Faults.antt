-- The causes of a table's faults, in the order in which they are looked at.
use Rattle.std.specs.Prelude.{◌≡◌, ℕ, Option, Some, None, if◌then◌else◌, is_some, Result, Ok, Err}
use Rattle.ac_table.specs.Tables.{TableState, is_live, has_facet, find_row}
use Rattle.ac_table.specs.declared.TableFault.{TableFault}
use Rattle.ac_table.specs.declared.TableFault.TheVariants.{NoActor, NoFacet, NoRow, NoMemory}

-- for each call that changes an actor
abbrev pub actor_fault : ℕ → TableState → Option TableFault
actor_fault a t = if is_live a t then None else Some NoActor

abbrev pub facet_fault : ℕ → ℕ → TableState → Option TableFault
facet_fault a facet t =
    if is_live a t then (if has_facet a facet t then None else Some NoFacet) else Some NoActor

abbrev pub row_fault : ℕ → TableState → Option TableFault
row_fault h t = if is_some (find_row h t.rows) then None else Some NoRow

-- A fault is answered exactly where it has its cause, and nothing changes. Where there is no cause, memory may be
-- wanting.
abbrev pub Faults : {X : Type 0} → Option TableFault → TableState → TableState → Result X TableFault → Type 0
Faults cause old new (Ok x) = cause ≡ None
Faults cause old new (Err NoMemory) = cause ≡ None
Faults cause old new (Err NoActor) = (cause ≡ Some NoActor) × (new ≡ old)
Faults cause old new (Err NoFacet) = (cause ≡ Some NoFacet) × (new ≡ old)
Faults cause old new (Err NoRow) = (cause ≡ Some NoRow) × (new ≡ old)

-- The same of a call that takes no memory.
abbrev pub ExactFaults : {X : Type 0} → Option TableFault → TableState → TableState → Result X TableFault → Type 0
ExactFaults cause old new (Ok x) = cause ≡ None
ExactFaults cause old new (Err e) = (cause ≡ Some e) × (new ≡ old)
