use Rattle.std.proofs.Common.{ap, sym, ◌∙◌}
use Rattle.ps_check.proofs.verdicts.told.Goals as goal

pub returns-in-Some : goal.returns-in-Some
returns-in-Some c found h =
    h c.args.at c.in-Ok.value c.in-Some.verdict.now (sym c.in-Some.ensures.value)
    ∙ ap (found c.args.at) c.in-Ok.ensures
