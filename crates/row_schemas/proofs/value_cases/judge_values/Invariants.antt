use Rattle.std.proofs.Common.{None, map}
use Rattle.std.specs.List.{FoldsTo}
use Rattle.row_cases.specs.Cases.{is_case}
use Rattle.row_cases.specs.Findings.{AreJudged}
use Rattle.row_schemas.specs.ValueCases.{LineHolds}
use Rattle.row_schemas.proofs.value_cases.judge_values.Given as goal

-- the lines so far are judged
abbrev pub invariant-loop-line : goal.invariant-loop-line
invariant-loop-line l =
    let lines = map (λ x. x.now) l.yielded in
    AreJudged is_case lines (FoldsTo LineHolds None lines l.schema) l.findings
