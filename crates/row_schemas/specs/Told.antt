-- How a table tells what reading a schema answers: `none`, or the fault by its name, with the name that it concerns, or
-- with how many values stand before it, or with the fault of the text and its place.
use Rattle.std.specs.Prelude.{◌≡◌, ℕ, ◌++◌, List, codes, ◌⊎◌, string_bytes}
use Rattle.std.specs.Fmt.{decimal}
use Rattle.ps_schema.specs.declared.Definition.{Definition}
use Rattle.ps_read.specs.Answers.{IsSchemaOf, IsSchemaFault}
use Rattle.ps_read.specs.declared.faults.SchemaFault.{SchemaFault}
use Rattle.ps_read.specs.declared.faults.SchemaFault.TheVariants as f
use Rattle.row_cases.specs.Names.{text_fault_name}

-- what is told of this fault, which is no want of memory
abbrev pub IsTold : SchemaFault → List ℕ → Type 0
IsTold f.NoMemory s = ⊥
IsTold (f.Unguarded a) s = s ≡ codes "Unguarded" ++ (codes " " ++ string_bytes a)
IsTold (f.NoSuchName a) s = s ≡ codes "NoSuchName" ++ (codes " " ++ string_bytes a)
IsTold (f.NameTwice a) s = s ≡ codes "NameTwice" ++ (codes " " ++ string_bytes a)
IsTold (f.BadSchema n) s = s ≡ codes "BadSchema" ++ (codes " " ++ decimal n)
IsTold (f.NotSupported n) s = s ≡ codes "NotSupported" ++ (codes " " ++ decimal n)
IsTold (f.Text k p) s = s ≡ codes "Text " ++ (text_fault_name k ++ (codes " at " ++ decimal p))

-- what is told of a text: that it has no fault as a schema, or the one that it has
abbrev pub TellsVerdict : List ℕ → List ℕ → Type 0
TellsVerdict text s =
    ((ds : List Definition) × IsSchemaOf text ds × (s ≡ codes "none"))
    ⊎ ((fault : SchemaFault) × IsSchemaFault text fault × IsTold fault s)
