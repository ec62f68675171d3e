use Rattle.std.proofs.Common.{ap, sym, ◌∙◌, option_map}
use Rattle.pv_value.specs.Plain.{plains}
use Rattle.ps_check.specs.Subjects.{held}
use Rattle.ps_schema.specs.Conforms.{are_none}
use Rattle.ps_check.proofs.Drops.{none_are}
use Rattle.ps_check.proofs.checking.is_empty.Goals as goal

pub returns-in-Some : goal.returns-in-Some
returns-in-Some c =
    c.is_empty.ensures ∙ none_are c.in-Some.values.now
    ∙ ap (λ o. held are_none (option_map (λ xs. plains xs.now) o)) (sym c.in-Some.is)
