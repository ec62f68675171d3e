-- The goals of `pass` that the check leaves.
use Rattle.std.proofs.Common.{◌+◌, ◌-◌, length, sym, ◌∙◌, arith}
use Rattle.sr_pass.proofs.Passes.{passed_more, passed_none}
use Rattle.sr_pass.proofs.passing.pass.Goals as goal

pub loop-left-preserved : goal.loop-left-preserved
loop-left-preserved g c =
    sym c.in-Some.is ∙ c.in_ok-next.ensures
    ∙ sym (passed_more (g.J.Judge.schema c.args.judge.now) c.args.caveats.now c.loop-left.left _
    c.index-caveats-place.result c.args.value.now c.loop-left.passing (omega arith) c.index-caveats-place.is
    c.loop-left.invariant)

pub returns-in_default : goal.returns-in_default
returns-in_default g c =
    sym (passed_none (g.J.Judge.schema c.args.judge.now) c.args.caveats.now
    (length c.args.caveats.now - (c.loop-left.left + 1)) c.args.value.now
    (passed_more (g.J.Judge.schema c.args.judge.now) c.args.caveats.now c.loop-left.left _
    c.index-caveats-place.result c.args.value.now c.loop-left.passing (omega arith) c.index-caveats-place.is
    c.loop-left.invariant
    ∙ sym c.in_ok-next.ensures ∙ c.in_default.is))
