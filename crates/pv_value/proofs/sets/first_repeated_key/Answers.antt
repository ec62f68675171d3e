use Rattle.std.proofs.Common.{arith, ap, ◌∙◌, not, map}
use Rattle.std.specs.List.{IsDistinct}
use Rattle.pv_value.specs.declared.Entry.{Entry}
use Rattle.pv_value.proofs.Ascends.{first_repeat_at, distinct_more, told_by_insert, has_more, key_at}
use Rattle.pv_value.proofs.sets.first_repeated_key.Goals as goal

pub loop-i-init : goal.loop-i-init
unfolding IsDistinct
loop-i-init c = record { members = λ q. rw c.new-seen.ensures.empty; distinct = tt }

pub returns-then-not-branch : goal.returns-then-not-branch
returns-then-not-branch c =
    let at = key_at c.args.entries.now c.loop-i.i c.index-entries-i.result (omega arith) c.index-entries-i.is in
    let told = told_by_insert c.loop-i.seen c.index-entries-i.result.key _ _ c.loop-i.invariant.members
    c.in_ok-insert.ensures.added in
    first_repeat_at (map (λ (e : Entry). e.key) c.args.entries.now) c.loop-i.i c.index-entries-i.result.key at.0 at.1
    (told ∙ ap not c.if-not-branch.true) c.loop-i.invariant.distinct

pub loop-i-preserved : goal.loop-i-preserved
loop-i-preserved c =
    let at = key_at c.args.entries.now c.loop-i.i c.index-entries-i.result (omega arith) c.index-entries-i.is in
    let told = told_by_insert c.loop-i.seen c.index-entries-i.result.key _ _ c.loop-i.invariant.members
    c.in_ok-insert.ensures.added in
    let keys = map (λ (e : Entry). e.key) c.args.entries.now in
    record {
      members = has_more c.loop-i.seen _ c.index-entries-i.result.key keys c.loop-i.i c.loop-i.invariant.members
          c.in_ok-insert.ensures.updates.0 at.0 at.1;
      distinct = distinct_more keys c.loop-i.i c.index-entries-i.result.key at.0 at.1
          (told ∙ ap not c.if-not-branch.false) c.loop-i.invariant.distinct;
    }
