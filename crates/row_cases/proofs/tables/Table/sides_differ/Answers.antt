use Rattle.std.proofs.Common.{IsNone, rules}
use Rattle.row_cases.proofs.tables.Table.sides_differ.Goals as goal

pub returns : goal.returns
returns c = λ e.
    let given = rw c.given_form.ensures at c.in_ok-given.ensures in
    let gives = rw c.deref.ensures.value at c.in_ok-answer.ensures in
    let none : IsNone c.in_ok-answers_differ.field-0 = rw e (search rules) in (
      c.in_ok-given.given.items,
      c.in_ok-wanted.wanted,
      c.in_ok-answer.answer,
      given,
      c.in_ok-wanted.ensures,
      gives,
      c.in_ok-answers_differ.ensures.0 none,
    )
