-- Rows that are judged, and how many there are.
use Rattle.std.proofs.Common.{◌≡◌, ℕ, ◌+◌, List, [], ◌∷◌, length, map, count_by, Result, Ok, Err, IfOk, refl, ap}
use Rattle.std.proofs.Common.{sym, subst, arith}
use Rattle.std.specs.List.{All}
use Rattle.std.proofs.lemmas.List.Recursion.{is_count_by}
use Rattle.row_cases.specs.Findings.{AreJudged}
use Rattle.row_cases.specs.Outcomes.{IsSameOutcome}
use Rattle.row_cases.specs.declared.differences.Outcome.{Outcome}
use Rattle.row_cases.specs.declared.tally.Findings.{Findings}
use Rattle.row_files.specs.Rows.{RowTold, row_told, AreRowsIn}
use Rattle.row_files.specs.declared.rows.Row.{Row}
use Rattle.row_runs.specs.Outcomes.{IsOutcome, FileHolds, RowHolds, is_row}

one_row : (r : RowTold) (rows : List RowTold) → length (r ∷ rows) ≡ 1 + length rows
one_row r rows = omega arith

pub all_rows : (rows : List RowTold) → count_by is_row rows ≡ length rows
all_rows rows = sym (is_count_by length is_row refl one_row rows)

-- what is said of an outcome is said of one that is the same
pub same_outcome : (row : RowTold) (wanted given : Outcome) → IsSameOutcome wanted given
    → IsOutcome row given.status given.line.items given.output.items
    → IsOutcome row wanted.status wanted.line.items wanted.output.items
same_outcome row wanted given same is =
    let status : ℕ → Type 0 = λ n. IsOutcome row n given.line.items given.output.items in
    let line : List ℕ → Type 0 = λ l. IsOutcome row wanted.status l given.output.items in
    let output : List ℕ → Type 0 = λ o. IsOutcome row wanted.status wanted.line.items o in
    subst output (sym same.2) (subst line (sym same.1) (subst status (sym same.0) is))

pub file_holds : {E : Type 0} (text : List ℕ) (rows : List Row) (judged : Result Findings E)
    → AreRowsIn text (map row_told rows)
    → IfOk judged (AreJudged is_row (map row_told rows) (All RowHolds (map row_told rows)))
    → IfOk judged (λ found. found.differences.items ≡ [] → FileHolds text found.passed)
file_holds text rows (Ok found) are judged = λ none.
    let told = map row_told rows in
    let passed : found.passed ≡ length told =
    let all = judged.counted in let few = ap length none in omega (arith, all_rows told) in
    (told, are, judged.holding none, passed)
file_holds text rows (Err fault) are judged = tt
