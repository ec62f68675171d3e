use Rattle.std.proofs.Common.{arith, ap, ◌∙◌, not}
use Rattle.std.specs.List.{IsDistinct}
use Rattle.pv_value.proofs.Ascends.{first_repeat_at, distinct_more, told_by_insert, has_more}
use Rattle.pv_value.proofs.sets.first_repeat.Goals as goal

pub loop-i-init : goal.loop-i-init
unfolding IsDistinct
loop-i-init c = record { members = λ q. rw c.new-seen.ensures.empty; distinct = tt }

pub returns-then-not-branch : goal.returns-then-not-branch
returns-then-not-branch c =
    let told = told_by_insert c.loop-i.seen c.index-items-i.result _ _ c.loop-i.invariant.members
    c.in_ok-insert.ensures.added in
    first_repeat_at c.args.items.now c.loop-i.i c.index-items-i.result (omega arith) c.index-items-i.is
    (told ∙ ap not c.if-not-branch.true) c.loop-i.invariant.distinct

pub loop-i-preserved : goal.loop-i-preserved
loop-i-preserved c =
    let told = told_by_insert c.loop-i.seen c.index-items-i.result _ _ c.loop-i.invariant.members
    c.in_ok-insert.ensures.added in
    record {
      members = has_more c.loop-i.seen _ c.index-items-i.result c.args.items.now c.loop-i.i c.loop-i.invariant.members
          c.in_ok-insert.ensures.updates.0 (omega arith) c.index-items-i.is;
      distinct = distinct_more c.args.items.now c.loop-i.i c.index-items-i.result (omega arith) c.index-items-i.is
          (told ∙ ap not c.if-not-branch.false) c.loop-i.invariant.distinct;
    }
