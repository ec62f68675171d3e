use Rattle.std.proofs.Common.{◌∙◌, sym}
use Rattle.pv_value.proofs.Ascends.{ascend_more, ascend_at_end, never_falls}
use Rattle.pv_value.proofs.sets.do_ascend.Goals as goal

pub returns-then-ge-clause-no : goal.returns-then-ge-clause-no
returns-then-ge-clause-no c = λ s. absurd
    (never_falls c.args.items.now c.loop-i.i _ _ c.loop-i.auto.i c.loop-i-test.true
    c.index-items-i.is c.index-items-i-in-loop-i.is (sym c.ge.ensures ∙ c.if-ge.true) s)

pub loop-i-preserved : goal.loop-i-preserved
loop-i-preserved c = ascend_more c.args.items.now c.loop-i.i _ _ c.loop-i.auto.i c.loop-i-test.true
    c.index-items-i.is c.index-items-i-in-loop-i.is (sym c.ge.ensures ∙ c.if-ge.false) c.loop-i.invariant

pub returns-clause-yes : goal.returns-clause-yes
returns-clause-yes c = λ t. ascend_at_end c.args.items.now c.loop-i.i c.loop-i-test.false c.loop-i.invariant
