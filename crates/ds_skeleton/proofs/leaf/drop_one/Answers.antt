use Rattle.std.proofs.Common.{refl, sym}
use Rattle.std.specs.BTreeMap as tree
use Rattle.pv_value.specs.Order.{order}
use Rattle.ds_skeleton.specs.Leaves.{Leaf}
use Rattle.ds_skeleton.proofs.Leaves.{rewrites, still_there, seen_alike}
use Rattle.ds_skeleton.proofs.Leaves.{none_counted_less, counted_one_less, counted_down}
use Rattle.ds_skeleton.proofs.leaf.drop_one.Goals as goal

pub returns-in_default-clause-counts : goal.returns-in_default-clause-counts
returns-in_default-clause-counts c =
    none_counted_less c.args.leaves.now c.get_mut.follows.lender-at-none c.args.constants.now c.args.captures
    c.get_mut.follows.holds-at-none (sym c.in_default.ensures.value)

pub returns-clause-leaves : goal.returns-clause-leaves
returns-clause-leaves c =
    let was = c.in-Some.leaf.now in
    let w : Leaf = record { observers = was.observers; captured = c.count_down.new.counts } in
    still_there c.args.leaves.now (c.get_mut.follows.lender w) c.args.constants.now was w
    (rewrites c.args.leaves.now (c.get_mut.follows.lender w) c.args.constants.now was w c.in-Some.ensures.value
    (c.get_mut.follows.holds w))

pub returns-clause-counts : goal.returns-clause-counts
returns-clause-counts c =
    let was = c.in-Some.leaf.now in
    let w : Leaf = record { observers = was.observers; captured = c.count_down.new.counts } in
    counted_one_less c.args.leaves.now (c.get_mut.follows.lender w) c.args.constants.now c.args.captures was w
    (rewrites c.args.leaves.now (c.get_mut.follows.lender w) c.args.constants.now was w c.in-Some.ensures.value
    (c.get_mut.follows.holds w))
    (counted_down (tree.get order was.captured) (tree.get order w.captured) c.args.captures
    c.in_ok-count_down.ensures.counts)

pub returns-clause-observers : goal.returns-clause-observers
returns-clause-observers c =
    let was = c.in-Some.leaf.now in
    let w : Leaf = record { observers = was.observers; captured = c.count_down.new.counts } in
    seen_alike c.args.leaves.now (c.get_mut.follows.lender w) c.args.constants.now was w
    (rewrites c.args.leaves.now (c.get_mut.follows.lender w) c.args.constants.now was w c.in-Some.ensures.value
    (c.get_mut.follows.holds w))
    (λ o. refl)
