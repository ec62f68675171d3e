-- The lines of a table of values: `schema TEXT`, and the cases of that schema, `NAME VALUE => yes` or `=> no`.
use Rattle.std.specs.Prelude.{◌≡◌, ℕ, ◌++◌, Bool, true, false, nat_eq, List, [], ◌∷◌, Option, Some, None, codes, ◌⊎◌}
use Rattle.std.specs.List.{FoldsTo, starts_with}
use Rattle.std.specs.Str.Pattern.{FindsChar, SplitsAroundMatch}
use Rattle.pv_value.specs.Plain.{Plain}
use Rattle.pv_text.specs.Reads.{AreValuesOf}
use Rattle.ps_schema.specs.Conforms.{conforms}
use Rattle.ps_schema.specs.Names.{knows}
use Rattle.ps_schema.specs.declared.Definition.{Definition}
use Rattle.ps_read.specs.Answers.{IsSchemaOf}
use Rattle.row_cases.specs.Cases.{lines_of, is_case, AreSides}
use Rattle.row_cases.specs.Forms.{IsIn}
use Rattle.row_cases.specs.declared.spelling.Form.TheVariants.{Text}

-- the one value that a text is, once its repetitions and escapes are read
abbrev pub IsValueIn : List ℕ → Plain → Type 0
IsValueIn text v = (bytes : List ℕ) × IsIn Text text bytes × AreValuesOf bytes (v ∷ [])

abbrev pub yes_or_no : Bool → List ℕ
yes_or_no true = codes "yes"
yes_or_no false = codes "no"

-- the schema has the name, and this says whether the value of the text conforms to what it stands for
abbrev pub Judges : List Definition → List ℕ → List ℕ → List ℕ → Type 0
Judges ds name text s =
    (v : Plain) × IsValueIn text v × (knows ds name ≡ true) × (s ≡ yes_or_no (conforms ds name v))

-- a case of the schema in hand passes: before the first blank stands a name, behind it a value, and behind the arrow
-- whether that conforms; where there is no schema none does
abbrev pub ValuePasses : Option (List Definition) → List ℕ → Type 0
ValuePasses (Some ds) line =
    (given : List ℕ) × (wanted : List ℕ) × (name : List ℕ) × (text : List ℕ)
    × AreSides line given wanted × SplitsAroundMatch (FindsChar 32) given name text × Judges ds name text wanted
ValuePasses None line = ⊥

-- the schema that the text writes, once its repetitions and escapes are read, is the one in hand
abbrev pub IsInHand : List ℕ → Option (List Definition) → Type 0
IsInHand text (Some ds) = (bytes : List ℕ) × IsIn Text text bytes × IsSchemaOf bytes ds
IsInHand text None = ⊥

-- a line that says a schema
abbrev pub SaysSchema : List ℕ → Option (List Definition) → Type 0
SaysSchema line new = (text : List ℕ) × (line ≡ codes "schema " ++ text) × IsInHand text new

abbrev pub says_schema : List ℕ → Bool
says_schema line = starts_with nat_eq line (codes "schema ")

-- the schema in hand before and after a line: one that is no case changes nothing, one that says a schema puts it into
-- the hand, and any other is a case of the schema in hand, which passes
abbrev pub LineHolds : Option (List Definition) → List ℕ → Option (List Definition) → Type 0
LineHolds old line new =
    ((is_case line ≡ false) × (new ≡ old))
    ⊎ (((is_case line ≡ true) × SaysSchema line new)
    ⊎ ((is_case line ≡ true) × (says_schema line ≡ false) × (new ≡ old) × ValuePasses old line))

-- the lines of a text hold, one behind another, where at first no schema is in hand
abbrev pub ValuesHold : List ℕ → Type 0
ValuesHold text = (last : Option (List Definition)) × FoldsTo LineHolds None (lines_of text) last
