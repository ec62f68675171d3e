-- What a file in which nothing differs says, by the folder that it is in.
use Rattle.std.specs.Prelude.{ℕ, List, Option, Some, None}
use Rattle.row_cases.specs.Cases.{TableHolds as CodecsHold}
use Rattle.row_runs.specs.Outcomes.{FileHolds as RowsHold}
use Rattle.row_schemas.specs.Tables.{table_named, TableHolds as SchemasHold}
use Rattle.row_schemas.specs.declared.tables.Table.{Table}
use Rattle.row_steps.specs.Rows.{FileHolds as StepsHold}
use Rattle.dsd_rows.specs.declared.Folder.{Folder}
use Rattle.dsd_rows.specs.declared.Folder.TheVariants.{Rows, Steps, Tables}

-- a table of schemas, or else one of the codecs and the hash
abbrev pub TableHolds : Option Table → List ℕ → List ℕ → Type 0
TableHolds (Some table) name text = SchemasHold table text
TableHolds None name text = CodecsHold name text

abbrev pub FileHolds : Folder → List ℕ → List ℕ → ℕ → Type 0
FileHolds Rows name text passed = RowsHold text passed
FileHolds Steps name text passed = StepsHold text passed
FileHolds Tables name text passed = TableHolds (table_named name) name text
