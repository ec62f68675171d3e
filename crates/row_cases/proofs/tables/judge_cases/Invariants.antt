use Rattle.std.proofs.Common.{map}
use Rattle.std.specs.List.{All}
use Rattle.row_cases.specs.Cases.{is_case, LinePasses}
use Rattle.row_cases.specs.Findings.{AreJudged}
use Rattle.row_cases.proofs.tables.judge_cases.Given as goal

-- the lines so far are judged
abbrev pub invariant-loop-line : goal.invariant-loop-line
invariant-loop-line l =
    let lines = map (λ x. x.now) l.yielded in
    AreJudged is_case lines (All (LinePasses l.table) lines) l.findings
