-- The cases of a table of faults: `TEXT => FAULT`, and when one passes.
use Rattle.std.specs.Prelude.{◌≡◌, ℕ, true, List, All}
use Rattle.row_cases.specs.Cases.{lines_of, is_case, AreSides}
use Rattle.row_cases.specs.Forms.{IsIn}
use Rattle.row_cases.specs.declared.spelling.Form.TheVariants.{Text}
use Rattle.row_schemas.specs.Told.{TellsVerdict}

-- what stands behind the arrow tells what the text before it is as a schema
abbrev pub FaultPasses : List ℕ → Type 0
FaultPasses line =
    (given : List ℕ) × (wanted : List ℕ) × (text : List ℕ)
    × AreSides line given wanted × IsIn Text given text × TellsVerdict text wanted

-- where it is a case, it passes
abbrev pub FaultLineHolds : List ℕ → Type 0
FaultLineHolds line = is_case line ≡ true → FaultPasses line

abbrev pub FaultsHold : List ℕ → Type 0
FaultsHold text = All FaultLineHolds (lines_of text)
