use Rattle.std.proofs.Common.{arith}
use Rattle.std.proofs.lemmas.Result.{IfOk-weaker}
use Rattle.pv_stream.proofs.Walking.{level_below, popped, few_levels, listed}
use Rattle.pv_stream.proofs.walks.is_closed.Goals as goal

pub returns-then-is_listed : goal.returns-then-is_listed
returns-then-is_listed c =
    λ yes. listed c.args.left.now c.args.place c.args.outer.now c.args.level c.requires.at c.requires.within
    c.requires.ends (c.is_listed.ensures c.if-is_listed.true)

pub between-requires-clause-order : goal.between-requires-clause-order
between-requires-clause-order c =
    omega (arith, level_below c.args.left.now c.args.place c.args.outer.now c.args.level c.requires.at)

pub is_whole-requires : goal.is_whole-requires
is_whole-requires c =
    let at = popped c.args.left.now c.args.place c.args.outer.now c.args.level c.requires.at in
    few_levels c.args.left.now c.args.level.place c.args.outer.now at

pub returns : goal.returns
returns c =
    let below = level_below c.args.left.now c.args.place c.args.outer.now c.args.level c.requires.at in
    IfOk-weaker c.is_whole.result _ _
    (λ b is. λ yes. (omega (arith, below), omega (arith, c.requires.within), is yes))
    (rw c.between.ensures at c.is_whole.ensures)
