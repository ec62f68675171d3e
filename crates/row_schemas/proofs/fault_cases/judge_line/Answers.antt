use Rattle.std.proofs.Common.{◌≡◌, true, refl}
use Rattle.row_cases.specs.Cases.{is_case}
use Rattle.row_cases.specs.Lemmas.Judging.{noted_case}
use Rattle.row_schemas.specs.FaultCases.{FaultLineHolds}
use Rattle.row_schemas.proofs.fault_cases.judge_line.Goals as goal

pub returns-in_ok-note : goal.returns-in_ok-note
returns-in_ok-note c =
    let line = c.args.line.now in
    let is : is_case line ≡ true = cc in
    noted_case (is_case line) (FaultLineHolds line) c.in_ok-found.found c.args.findings.now c.note.new.self is
    (λ none _. let passes = rw (c.in_ok-found.ensures.passing none) at c.difference.ensures in passes refl)
    c.in_ok-note.ensures.passed c.in_ok-note.ensures.failed
