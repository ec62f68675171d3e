use Rattle.std.proofs.Common.{map}
use Rattle.std.specs.List.{All}
use Rattle.row_cases.specs.Cases.{is_case}
use Rattle.row_cases.specs.Findings.{AreJudged}
use Rattle.row_schemas.specs.FaultCases.{FaultLineHolds}
use Rattle.row_schemas.proofs.fault_cases.judge_faults.Given as goal

-- the lines so far are judged
abbrev pub invariant-loop-line : goal.invariant-loop-line
invariant-loop-line l =
    let lines = map (λ x. x.now) l.yielded in AreJudged is_case lines (All FaultLineHolds lines) l.findings
