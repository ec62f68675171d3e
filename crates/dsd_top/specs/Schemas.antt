-- The schema of `check`: which a file of the host holds, and why one is refused.
use Rattle.std.specs.Prelude.{◌≡◌, ◌≢◌, ℕ, ◌<◌, ◌≤◌, true, false, List, length, Option, ◌⊎◌}
use Rattle.out_ports.specs.Ports.{IsFile}
use Rattle.ps_schema.specs.declared.Definition.{Definition}
use Rattle.ps_schema.specs.Names.{knows}
use Rattle.ps_read.specs.Answers.{IsSchemaOf, IsSchemaFault}
use Rattle.ps_read.specs.declared.faults.SchemaFault.{SchemaFault}
use Rattle.ps_read.specs.declared.faults.SchemaFault.TheVariants.{BadSchema, NotSupported, NoMemory}
use Rattle.dsd_top.specs.Limits.{most_file}
use Rattle.dsd_top.specs.Asked.{Checking}

-- a host's files, as names and contents, where it tells them
abbrev pub Files : Type 0
Files = Option (List (List ℕ × List ℕ))

-- ---- by the text

-- it has at most 1,048,576 bytes, and is these definitions, one of them of the name
abbrev pub IsSchemaWith : List ℕ → List ℕ → List Definition → Type 0
IsSchemaWith text name ds = (length text ≤ most_file) × IsSchemaOf text ds × (knows ds name ≡ true)

-- how many values stand before the first that can't stand there; 0, where something else is wrong
abbrev pub place_in : SchemaFault → ℕ
place_in (BadSchema n) = n
place_in (NotSupported n) = n
place_in fault = 0

-- it is no schema
abbrev pub IsNoSchemaAt : List ℕ → ℕ → Type 0
IsNoSchemaAt text n =
    (fault : SchemaFault) × (fault ≢ NoMemory) × IsSchemaFault text fault × (n ≡ place_in fault)

-- it is a schema that doesn't know the name
abbrev pub Lacks : List ℕ → List ℕ → Type 0
Lacks text name = (ds : List Definition) × IsSchemaOf text ds × (knows ds name ≡ false)

-- it is too long, or no schema, or doesn't know the name, and this is the number of that
abbrev pub IsRefusedAt : List ℕ → List ℕ → ℕ → Type 0
IsRefusedAt text name n =
    ((most_file < length text) × (n ≡ 0))
    ⊎ ((length text ≤ most_file) × (IsNoSchemaAt text n ⊎ (Lacks text name × (n ≡ 0))))

-- ---- by the file

abbrev pub IsSchemaIn : Files → Checking → List Definition → Type 0
IsSchemaIn files k ds = (text : List ℕ) × IsFile files k.file text × IsSchemaWith text k.name ds

abbrev pub IsBadFileAt : Files → Checking → ℕ → Type 0
IsBadFileAt files k n = (text : List ℕ) × IsFile files k.file text × IsRefusedAt text k.name n
