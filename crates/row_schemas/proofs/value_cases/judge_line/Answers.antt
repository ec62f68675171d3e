use Rattle.std.proofs.Common.{◌≡◌, Option, true, refl, inl, inr, subst, List}
use Rattle.ps_schema.specs.declared.Definition.{Definition}
use Rattle.row_cases.specs.Cases.{is_case}
use Rattle.row_cases.specs.Lemmas.Judging.{noted_case}
use Rattle.row_schemas.specs.ValueCases.{IsInHand, LineHolds, ValuePasses}
use Rattle.row_schemas.proofs.Noting.{noted_so, weakened}
use Rattle.row_schemas.proofs.value_cases.judge_line.Goals as goal

pub returns-in-Some : goal.returns-in-Some
returns-in-Some c =
    let line = c.args.line.now in
    let text = c.in-Some.text.now in
    let is : is_case line ≡ true = cc in
    weakened c.judge_schema.result _ _
    (λ after noted. noted_so (is_case line) (IsInHand text after) (LineHolds c.args.schema line after)
    c.args.findings.now c.judge_schema.new.findings is (λ hand. inr (inl (is, (text, c.in-Some.ensures, hand)))) noted)
    c.judge_schema.ensures

pub returns-in_ok-note-in-None : goal.returns-in_ok-note-in-None
returns-in_ok-note-in-None c =
    let line = c.args.line.now in
    let schema = c.args.schema in
    let is : is_case line ≡ true = cc in
    let Passes : Option (List Definition) → Type 0 = λ s. ValuePasses s line in
    noted_case (is_case line) (LineHolds schema line schema) c.in_ok-found-in-None.found c.args.findings.now
    c.note.new.self is
    (λ none. let passes = rw (c.in_ok-found-in-None.ensures.passing none) at c.difference.ensures in
    inr (inr (is, c.in-None.ensures, refl, subst Passes c.as_ref.ensures.value (passes refl))))
    c.in_ok-note-in-None.ensures.passed c.in_ok-note-in-None.ensures.failed
