use Rattle.std.proofs.Common.{◌≡◌, None, true, refl}
use Rattle.row_cases.specs.Lemmas.Judging.{noted_case}
use Rattle.row_schemas.specs.ValueCases.{IsInHand}
use Rattle.row_schemas.proofs.value_cases.judge_schema.Goals as goal

pub returns-in_ok-note-in-Ok : goal.returns-in_ok-note-in-Ok
returns-in_ok-note-in-Ok c =
    noted_case true (IsInHand c.args.text.now c.in-Ok.schema) c.in_ok-told-in-Ok.field-0 c.args.findings.now
    c.note.new.self refl
    (λ none. let told = c.in_ok-told-in-Ok.ensures.passing none in
    let same : c.in-Ok.difference ≡ None = cc in c.in-Ok.ensures same)
    c.in_ok-note-in-Ok.ensures.passed c.in_ok-note-in-Ok.ensures.failed

pub returns-in_ok-note-in-Err : goal.returns-in_ok-note-in-Err
returns-in_ok-note-in-Err c =
    noted_case true ⊥ c.in_ok-told-in-Err.field-0 c.args.findings.now c.note-in-Err.new.self refl
    (λ none. let told = c.in_ok-told-in-Err.ensures.passing none in absurd cc)
    c.in_ok-note-in-Err.ensures.passed c.in_ok-note-in-Err.ensures.failed
