use Rattle.std.proofs.Common.{option_map, ap}
use Rattle.row_steps.specs.Hands.{hand_in}
use Rattle.row_steps.proofs.Holding.{judged_case}
use Rattle.row_steps.proofs.steps.judge_line.Goals as goal

pub returns-in_ok-note-in-Case-Some : goal.returns-in_ok-note-in-Case-Some
returns-in_ok-note-in-Case-Some c =
    let is = rw c.in-Case-Some.is-0 at c.line_of.ensures in
    judged_case c.args.line.now c.in-Case-Some.case.now (option_map hand_in c.args.trial) (hand_in
    c.in-Case-Some.trial)
    (hand_in c.in_ok-trial-in-Case-Some.trial) c.in_ok-case_of-in-Case-Some.field-0 c.in_ok-named-in-Case-Some.field-0
    c.in_ok-trial-in-Case-Some.difference c.args.findings.now c.note.new.self
    (ap (option_map hand_in) c.in-Case-Some.is-1) is.0 is.1 c.in_ok-case_of-in-Case-Some.ensures
    c.in_ok-trial-in-Case-Some.ensures.holds c.in_ok-named-in-Case-Some.ensures.none
    c.in_ok-note-in-Case-Some.ensures.passed c.in_ok-note-in-Case-Some.ensures.failed
