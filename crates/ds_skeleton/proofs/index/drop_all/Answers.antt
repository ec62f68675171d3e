use Rattle.std.proofs.Common.{◌≡◌, length, arith, rules}
use Rattle.ds_skeleton.specs.Shapes.{IsDropped}
use Rattle.ds_skeleton.proofs.Walks.{walk_on, walked}
use Rattle.ds_skeleton.proofs.index.drop_all.Goals as goal

pub loop-shape-preserved : goal.loop-shape-preserved
loop-shape-preserved c =
    walk_on (IsDropped c.args.value.now) c.loop-shape.shape-index c.deref_mut-shape-items.result.now
    c.loop-shape.shape-items c.drop_one.new.self (omega arith) c.loop-shape.invariant
    c.shape-item.result c.in_ok-drop_one.ensures

pub returns : goal.returns
returns c =
    let old : length c.args.shapes.now.items ≡ c.args.shapes.now.len = search rules in
    let new : length c.loop-shape.shape-items ≡ c.args.shapes.now.len = search rules in
    let same : c.deref_mut-shape-items.result.now ≡ c.args.shapes.now.items = search rules in
    walked (IsDropped c.args.value.now) c.loop-shape.shape-index c.args.shapes.now.len c.args.shapes.now.items
    c.deref_mut-shape-items.result.now c.loop-shape.shape-items old new same (omega arith) c.loop-shape.invariant
