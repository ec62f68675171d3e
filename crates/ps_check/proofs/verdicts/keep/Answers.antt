use Rattle.std.proofs.Common.{ap, sym, ◌∙◌}
use Rattle.ps_check.proofs.Judged.{still_told}
use Rattle.ps_check.proofs.verdicts.keep.Goals as goal

pub returns : goal.returns
returns c found h e =
    still_told c.insert.result found c.args.table.now c.insert.new.self c.args.at c.in-Ok.value c.args.verdict
    c.insert.ensures.updates c.insert.ensures.err h (e ∙ ap (found c.args.at) (sym c.in-Ok.ensures))
