use Rattle.std.proofs.Common.{ℕ, List, sym, ◌∙◌, subst}
use Rattle.row_schemas.specs.Told.{TellsVerdict}
use Rattle.row_schemas.proofs.fault_cases.difference.Goals as goal

pub returns : goal.returns
returns c = λ none.
    let tells = rw c.deref.ensures.value at c.in_ok-given-2.ensures in
    let same = c.in_ok-unlike.ensures none ∙ c.as_str.ensures.value in
    let Tells : List ℕ → Type 0 = λ s. TellsVerdict c.in_ok-text.text.items s in (
      c.in_ok-given.given.now,
      c.in_ok-given.wanted.now,
      c.in_ok-text.text.items,
      c.in_ok-given.ensures,
      c.in_ok-text.ensures,
      subst Tells (sym same) tells,
    )
