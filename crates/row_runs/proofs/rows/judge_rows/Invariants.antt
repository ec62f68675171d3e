use Rattle.std.proofs.Common.{map, take}
use Rattle.std.specs.List.{All}
use Rattle.row_cases.specs.Findings.{AreJudged}
use Rattle.row_files.specs.Rows.{row_told}
use Rattle.row_runs.specs.Outcomes.{RowHolds, is_row}
use Rattle.row_runs.proofs.rows.judge_rows.Given as goal

-- the rows so far are judged
abbrev pub invariant-loop-row : goal.invariant-loop-row
invariant-loop-row l =
    let rows = map row_told (take l.row-index l.rows) in
    AreJudged is_row rows (All RowHolds rows) l.findings
