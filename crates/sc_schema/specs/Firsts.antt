-- The schema that the first value of a script or of a configuration gives.
use Rattle.std.specs.Prelude.{◌≡◌, ◌≢◌, ℕ, List, [], ◌∷◌, Bool, Option, Some, None, IfSome}
use Rattle.pv_value.specs.Plain.{Plain}
use Rattle.ps_schema.specs.declared.Definition.{Definition}
use Rattle.ps_read.specs.Answers.{IsSchemaOf, IsSchemaFault}
use Rattle.ps_read.specs.declared.faults.SchemaFault.{SchemaFault}
use Rattle.ps_read.specs.declared.faults.SchemaFault.TheVariants.{NoMemory}
use Rattle.sc_events.specs.declared.inputs.Form.{Form}
use Rattle.sc_events.specs.Events.{event_of}
use Rattle.sc_events.specs.Readings.{AreReadAs}
use Rattle.sc_events.specs.declared.events.ScriptEvent.{ScriptEvent}
use Rattle.sc_events.specs.declared.events.ScriptEvent.TheVariants.{Schema}

-- the text of the schema that an event gives
abbrev pub text_in : Option ScriptEvent → Option (List ℕ)
text_in (Some (Schema text)) = Some text
text_in o = None

-- the first value may give one
abbrev pub first_text : List Plain → Option (List ℕ)
first_text [] = None
first_text (v ∷ vs) = text_in (event_of v)

-- the text is this schema, or none; where no text is given, the schema is that without definitions
abbrev pub IsVerdict : Option (List ℕ) → Option (List Definition) → Type 0
IsVerdict None o = o ≡ Some []
IsVerdict (Some text) (Some ds) = IsSchemaOf text ds
IsVerdict (Some text) None = (f : SchemaFault) × (f ≢ NoMemory) × IsSchemaFault text f

-- the text is a schema, or is refused
abbrev pub HasVerdict : List ℕ → Type 0
HasVerdict text = (o : Option (List Definition)) × IsVerdict (Some text) o

-- so is the text that the first value of the input gives, where it gives one
abbrev pub HasFirstVerdict : Form → List ℕ → Type 0
HasFirstVerdict form bytes =
    (vs : List Plain) (whole : Bool) → AreReadAs form bytes vs whole → IfSome (first_text vs) HasVerdict

-- ---- laws

abbrev pub OneVerdict : Type 0
OneVerdict = (t : Option (List ℕ)) (o q : Option (List Definition)) → IsVerdict t o → IsVerdict t q → o ≡ q

abbrev pub SomeVerdict : Type 0
SomeVerdict = (t : Option (List ℕ)) → IfSome t HasVerdict → (o : Option (List Definition)) × IsVerdict t o
