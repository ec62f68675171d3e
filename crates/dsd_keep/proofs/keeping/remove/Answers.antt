use Rattle.std.proofs.Common.{◌∙◌}
use Rattle.dsd_keep.proofs.Acted.{unkept_stays}
use Rattle.dsd_keep.proofs.keeping.remove.Goals as goal

pub returns-else-branch-clause-same : goal.returns-else-branch-clause-same
returns-else-branch-clause-same g c =
    let there = c.in_ok-remove in
    there.ensures.done ∙ unkept_stays _ c.args.oid.now there.field-0 c.if-branch.false there.ensures.answer
