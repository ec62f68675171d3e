use Rattle.std.proofs.Common.{Some, sym, ap, ◌∙◌}
use Rattle.ds_skeleton.proofs.Places.{found, missing}
use Rattle.ds_skeleton.proofs.finding.find.Goals as goal

pub returns-in-Ok : goal.returns-in-Ok
returns-in-Ok c =
    ap Some c.index-shapes-at.is
    ∙ sym (found c.args.outline.now c.args.shapes.now c.in-Ok.at c.index-shapes-at.result c.requires
    (c.in-Ok.ensures.range, c.in-Ok.ensures.place))

pub returns-in-Err : goal.returns-in-Err
returns-in-Err c = sym (missing c.args.outline.now c.args.shapes.now c.in-Err.field-0 c.in-Err.ensures.place)
