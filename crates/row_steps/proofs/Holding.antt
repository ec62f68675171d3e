-- A case that is answered once more, and one that is judged.
use Rattle.std.proofs.Common.{◌≡◌, ℕ, ◌+◌, List, add-one, true, Option, Some, None, IfSome, subst, inr, sym}
use Rattle.row_cases.specs.declared.tally.Findings.{Findings}
use Rattle.row_files.specs.Lines.{is_case_line}
use Rattle.pv_value.specs.Plain.{Plain}
use Rattle.std.specs.declared.alloc.Global.{Global}
use Rattle.std.specs.declared.string.String.{String}
use Rattle.row_cases.specs.Findings.{HasPassed, Differs}
use Rattle.row_cases.specs.Lemmas.Judging.{noted_case}
use Rattle.row_files.specs.Cases.{IsCase}
use Rattle.row_files.specs.declared.cases.Case.{Case}
use Rattle.row_steps.specs.Hands.{Hand}
use Rattle.row_steps.specs.Rows.{IsJudged, LineHolds, AnswersOnce, AnswersSo}

-- a case answered so often, and once more
pub answers_more : (n : ℕ) (asked wanted : Plain) (old mid new : Hand) → AnswersSo n asked wanted old mid
    → AnswersOnce asked wanted mid new → AnswersSo (n + 1) asked wanted old new
answers_more n asked wanted old mid new so once = rw add-one (mid, so, once)

pub judged_case : (line text : List ℕ) (before : Option Hand) (was now : Hand) (case : Case)
    (found difference : Option (String Global)) (old new : Findings) → before ≡ Some was → is_case_line line ≡ true
    → text ≡ line → IsCase text case
    → (difference ≡ None → AnswersSo case.times case.asked case.wanted was now) → (found ≡ None → difference ≡ None)
    → (found ≡ None → HasPassed old new) → IfSome found (Differs old new) → IsJudged line before (Some now) old new
judged_case line text before was now case found difference old new at is same of holds none counted told =
    let Of : List ℕ → Type 0 = λ t. IsCase t case in
    let Holds : Option Hand → Type 0 = λ b. LineHolds b line (Some now) in
    noted_case (is_case_line line) (LineHolds before line (Some now)) found old new is
    (λ e. subst Holds (sym at) (inr (inr (is, (case, subst Of same of, holds (none e)))))) counted told
