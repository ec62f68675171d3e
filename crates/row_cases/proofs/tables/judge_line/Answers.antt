use Rattle.std.proofs.Common.{◌≡◌, true}
use Rattle.row_cases.specs.Cases.{is_case, LinePasses}
use Rattle.row_cases.specs.Lemmas.Judging.{noted_case}
use Rattle.row_cases.proofs.tables.judge_line.Goals as goal

pub returns-in_ok-note : goal.returns-in_ok-note
returns-in_ok-note c =
    let line = c.args.line.now in
    let is : is_case line ≡ true = cc in
    noted_case (is_case line) (LinePasses c.args.table line) c.in_ok-found.found c.args.findings.now c.note.new.self is
    (λ none _. c.in_ok-found.ensures.passing none) c.in_ok-note.ensures.passed c.in_ok-note.ensures.failed
