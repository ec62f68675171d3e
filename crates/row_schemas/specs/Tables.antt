-- The tables of cases by their names, and when what a table says holds.
use Rattle.std.specs.Prelude.{ℕ, List, Option, Some, None, if◌then◌else◌, codes}
use Rattle.std.specs.Str.{bytes_eq}
use Rattle.row_schemas.specs.FaultCases.{FaultsHold}
use Rattle.row_schemas.specs.ValueCases.{ValuesHold}
use Rattle.row_schemas.specs.declared.tables.Table.{Table}
use Rattle.row_schemas.specs.declared.tables.Table.TheVariants.{SchemaFaults, Conforming}

-- the table of a file's name
abbrev pub table_named : List ℕ → Option Table
table_named name =
    if bytes_eq name (codes "schema_faults") then Some SchemaFaults
    else (if bytes_eq name (codes "conforming") then Some Conforming
    else None)

abbrev pub TableHolds : Table → List ℕ → Type 0
TableHolds SchemaFaults text = FaultsHold text
TableHolds Conforming text = ValuesHold text
