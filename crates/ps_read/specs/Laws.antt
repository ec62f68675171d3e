-- Laws of the grammar.
use Rattle.std.specs.Prelude.{◌≡◌, ℕ, List}
use Rattle.ps_schema.specs.declared.Definition.{Definition}
use Rattle.ps_read.specs.Answers.{IsSchemaOf, IsSchemaFault}
use Rattle.ps_read.specs.declared.faults.SchemaFault.{SchemaFault}
use Rattle.ps_read.specs.declared.faults.SchemaFault.TheVariants.{NoMemory}

-- a text writes one schema at most
abbrev pub OneSchema : Type 0
OneSchema = (text : List ℕ) (ds es : List Definition) → IsSchemaOf text ds → IsSchemaOf text es → ds ≡ es

-- what writes a schema has no fault
abbrev pub NoFaultBeside : Type 0
NoFaultBeside = (text : List ℕ) (ds : List Definition) (f : SchemaFault) → (f ≡ NoMemory → ⊥) → IsSchemaOf text ds
    → IsSchemaFault text f → ⊥
