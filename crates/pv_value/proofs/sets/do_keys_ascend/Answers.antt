use Rattle.std.proofs.Common.{arith, ◌∙◌, sym}
use Rattle.std.proofs.lemmas.List.{length-map}
use Rattle.pv_value.proofs.Ascends.{keys_of, key_at, ascend_more, ascend_at_end, never_falls}
use Rattle.pv_value.proofs.sets.do_keys_ascend.Goals as goal

pub returns-then-ge-clause-no : goal.returns-then-ge-clause-no
returns-then-ge-clause-no c = λ s.
    let entries = c.args.entries.now in
    let first = key_at entries _ c.index-entries-i.result (omega arith) c.index-entries-i.is in
    let second = key_at entries c.loop-i.i c.index-entries-i-in-loop-i.result c.loop-i-test.true
    c.index-entries-i-in-loop-i.is in
    absurd (never_falls (keys_of entries) c.loop-i.i _ _ c.loop-i.auto.i second.0 first.1 second.1
    (sym c.ge.ensures ∙ c.if-ge.true) s)

pub loop-i-preserved : goal.loop-i-preserved
loop-i-preserved c =
    let entries = c.args.entries.now in
    let first = key_at entries _ c.index-entries-i.result (omega arith) c.index-entries-i.is in
    let second = key_at entries c.loop-i.i c.index-entries-i-in-loop-i.result c.loop-i-test.true
    c.index-entries-i-in-loop-i.is in
    ascend_more (keys_of entries) c.loop-i.i _ _ c.loop-i.auto.i second.0 first.1 second.1
    (sym c.ge.ensures ∙ c.if-ge.false) c.loop-i.invariant

pub returns-clause-yes : goal.returns-clause-yes
returns-clause-yes c = λ t. ascend_at_end (keys_of c.args.entries.now) c.loop-i.i (rw length-map c.loop-i-test.false)
    c.loop-i.invariant
