use Rattle.std.proofs.Common.{◌++◌}
use Rattle.dsd_top.proofs.Fronts.{append_both, front_first, front_then, front_behind}
use Rattle.dsd_top.proofs.lines.write_three.Goals as goal

pub returns-in-Err-write_all-clause-front : goal.returns-in-Err-write_all-clause-front
returns-in-Err-write_all-clause-front g c =
    front_first _ _ (c.args.first.now ++ c.args.second.now) c.args.third.now
    (front_then _ _ _ c.args.first.now c.args.second.now c.in_default.ensures.written c.in-Err-write_all.ensures.front)

pub returns-clause-front : goal.returns-clause-front
returns-clause-front g c =
    front_behind _ _ _ _ (c.args.first.now ++ c.args.second.now) c.args.third.now
    (append_both _ _ _ c.args.first.now c.args.second.now c.in_default.ensures.written
    c.in_default-write_all.ensures.written) c.write_all-3.ensures.front
