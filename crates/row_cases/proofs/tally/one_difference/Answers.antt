use Rattle.std.proofs.Common.{◌∷◌, ◌++◌, [], ap, ◌∙◌}
use Rattle.row_cases.proofs.tally.one_difference.Goals as goal

pub returns-clause-line : goal.returns-clause-line
returns-clause-line c =
    let s = c.in_ok-from_str.field-0 in (
      s,
      c.in_ok-note.ensures.failed.1 ∙ ap (λ ds. ds ++ s ∷ []) c.new-findings.ensures.differences,
      c.in_ok-from_str.ensures.ok,
    )
