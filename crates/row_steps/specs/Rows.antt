-- Rows of steps, and when their cases hold.
use Rattle.std.specs.Prelude.{◌≡◌, ℕ, zero, suc, ◌++◌, true, List, codes, count_by, Option, Some, None}
use Rattle.std.specs.Prelude.{◌⊎◌}
use Rattle.std.specs.Fmt.{decimal}
use Rattle.std.specs.List.{FoldsTo}
use Rattle.pv_value.specs.Plain.{Plain}
use Rattle.row_cases.specs.Findings.{IsNoted}
use Rattle.row_cases.specs.declared.tally.Findings.{Findings}
use Rattle.row_files.specs.Cases.{IsCase}
use Rattle.row_files.specs.Lines.{lines_of, is_left_out, begins_row, is_case_line}
use Rattle.row_files.specs.declared.cases.Case.{Case}
use Rattle.row_asking.specs.Asking.{Asks}
use Rattle.row_steps.specs.Hands.{Hand, first_hand}
use Rattle.row_steps.specs.Stepping.{IsAnswered}
use Rattle.row_asking.specs.declared.asking.Asked.{Asked}

-- what the value asks is done or asked, and this is answered
abbrev pub AnswersOnce : Plain → Plain → Hand → Hand → Type 0
AnswersOnce asked wanted old new = (a : Asked) × Asks asked a × IsAnswered old a new wanted

-- so often, one after another
abbrev pub AnswersSo : ℕ → Plain → Plain → Hand → Hand → Type 0
AnswersSo zero asked wanted old new = new ≡ old
AnswersSo (suc n) asked wanted old new =
    (mid : Hand) × AnswersSo n asked wanted old mid × AnswersOnce asked wanted mid new

-- the row in hand before and after a case of it that holds
abbrev pub CaseHolds : List ℕ → Option Hand → Option Hand → Type 0
CaseHolds line (Some old) (Some new) =
    (case : Case) × IsCase line case × AnswersSo case.times case.asked case.wanted old new
CaseHolds line old new = ⊥

-- the same of a line: none changes nothing, a row begins with nothing done, and a case holds
abbrev pub LineHolds : Option Hand → List ℕ → Option Hand → Type 0
LineHolds old line new =
    ((is_left_out line ≡ true) × (new ≡ old))
    ⊎ (((begins_row line ≡ true) × (new ≡ Some first_hand)) ⊎ ((is_case_line line ≡ true) × CaseHolds line old new))

-- what is noted of a line
abbrev pub IsJudged : List ℕ → Option Hand → Option Hand → Findings → Findings → Type 0
IsJudged line before after old new = IsNoted (is_case_line line) (LineHolds before line after) old new

-- from one row in hand to another, line by line, each of which holds
abbrev pub LinesHold : List (List ℕ) → Option Hand → Type 0
LinesHold lines last = FoldsTo LineHolds None lines last

-- the lines of a file hold, and as many cases passed as it has
abbrev pub FileHolds : List ℕ → ℕ → Type 0
FileHolds text passed =
    (passed ≡ count_by is_case_line (lines_of text)) × ((last : Option Hand) × LinesHold (lines_of text) last)

-- what is told of a case that differs: its place, its row, and how
abbrev pub case_told : ℕ → List ℕ → List ℕ → List ℕ
case_told place row how = decimal place ++ (codes ": " ++ (row ++ (codes ": " ++ how)))
