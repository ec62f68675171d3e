use Rattle.std.proofs.Common.{ℕ, List, sym, subst}
use Rattle.row_schemas.specs.ValueCases.{Judges}
use Rattle.row_schemas.proofs.value_cases.difference.Goals as goal

pub returns : goal.returns
returns c =
    let name = c.in-Some-split_once.name.now in
    let text = c.in-Some-split_once.text.now in
    let JudgesSo : List ℕ → Type 0 = λ s. Judges c.in-Some.schema.now name text s in
    rw c.in-Some.is (λ none. (
      c.in_ok-given.given.now,
      c.in_ok-given.wanted.now,
      name,
      text,
      c.in_ok-given.ensures,
      c.in-Some-split_once.ensures.cases,
      subst JudgesSo (sym (c.in_ok-unlike.ensures none)) c.in_ok-verdict.ensures,
    ))
