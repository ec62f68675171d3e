-- What reading answers.
use Rattle.std.specs.Prelude.{◌≡◌, ℕ, List, Result, Ok, Err}
use Rattle.pv_value.specs.Plain.{Plain}
use Rattle.pv_text.specs.Reads.{AreValuesOf, ValuesStand}
use Rattle.ps_schema.specs.declared.Definition.{Definition}
use Rattle.ps_schema.specs.declared.faults.SchemaFault.{SchemaFault as MadeFault}
use Rattle.ps_schema.specs.declared.faults.SchemaFault.TheVariants as m
use Rattle.ps_schema.specs.Schemas.{IsSchema, IsRefused}
use Rattle.ps_read.specs.Clauses.{definitions_of}
use Rattle.ps_read.specs.declared.faults.Misfit.TheVariants as at
use Rattle.ps_read.specs.declared.faults.Misfit.{Misfit}
use Rattle.ps_read.specs.declared.faults.Stop.{Stop}
use Rattle.ps_read.specs.declared.faults.Stop.TheVariants as s
use Rattle.ps_read.specs.declared.faults.SchemaFault.{SchemaFault}
use Rattle.ps_read.specs.declared.faults.SchemaFault.TheVariants as f

-- unless memory ran out, the answer is this
abbrev pub Gives : {T U : Type 0} → (T → U) → Result T Stop → Result U Misfit → Type 0
Gives view (Ok x) r = r ≡ Ok (view x)
Gives view (Err s.NoMemory) r = Unit {0}
Gives view (Err (s.At m)) r = r ≡ Err m

-- the values write definitions that are a schema
abbrev pub WriteSchema : List Plain → List Definition → Type 0
WriteSchema vs ds = (definitions_of vs ≡ Ok ds) × IsSchema ds

-- the values write definitions that are refused so
abbrev pub WriteRefused : List Plain → MadeFault → Type 0
WriteRefused vs fault = (ds : List Definition) × (definitions_of vs ≡ Ok ds) × IsRefused ds fault

-- what is wrong with values: the first that can't stand comes before what is wrong with the definitions
abbrev pub IsWrittenFault : List Plain → SchemaFault → Type 0
IsWrittenFault vs f.NoMemory = Unit {0}
IsWrittenFault vs (f.Text k p) = ⊥
IsWrittenFault vs (f.BadSchema n) = definitions_of vs ≡ Err (at.BadSchema n)
IsWrittenFault vs (f.NotSupported n) = definitions_of vs ≡ Err (at.NotSupported n)
IsWrittenFault vs (f.NameTwice a) = WriteRefused vs (m.NameTwice a)
IsWrittenFault vs (f.NoSuchName a) = WriteRefused vs (m.NoSuchName a)
IsWrittenFault vs (f.Unguarded a) = WriteRefused vs (m.Unguarded a)

-- ---- texts

-- the text is values that write this schema
abbrev pub IsSchemaOf : List ℕ → List Definition → Type 0
IsSchemaOf text ds = (vs : List Plain) × AreValuesOf text vs × WriteSchema vs ds

abbrev pub AreFaulty : List ℕ → SchemaFault → Type 0
AreFaulty text fault = (vs : List Plain) × AreValuesOf text vs × IsWrittenFault vs fault

-- a fault of the text comes before those of the values
abbrev pub IsSchemaFault : List ℕ → SchemaFault → Type 0
IsSchemaFault text f.NoMemory = Unit {0}
IsSchemaFault text (f.Text k p) = ValuesStand text (record { kind = k; place = p })
IsSchemaFault text fault = AreFaulty text fault
