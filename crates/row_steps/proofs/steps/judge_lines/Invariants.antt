use Rattle.std.proofs.Common.{map, option_map}
use Rattle.row_cases.specs.Findings.{AreJudged}
use Rattle.row_files.specs.Lines.{is_case_line}
use Rattle.row_steps.specs.Hands.{hand_in}
use Rattle.row_steps.specs.Rows.{LinesHold}
use Rattle.row_steps.proofs.steps.judge_lines.Given as goal

-- the lines so far are judged
abbrev pub invariant-loop-line : goal.invariant-loop-line
invariant-loop-line l =
    let lines = map (λ x. x.now) l.yielded in
    AreJudged is_case_line lines (LinesHold lines (option_map hand_in l.trial)) l.findings
