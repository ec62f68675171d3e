use Rattle.std.proofs.Common.{false, refl, sym}
use Rattle.std.specs.BTreeSet as sorted
use Rattle.ds_skeleton.specs.Leaves.{Leaf}
use Rattle.ds_skeleton.proofs.Leaves.{rewrites, stays_there, counted_still, seen_set, ends_after, goes_there}
use Rattle.ds_skeleton.proofs.Leaves.{seen_no_more, none_stays, none_counted, none_seen, some_left, none_left}
use Rattle.ds_skeleton.proofs.leaf.unwatch.Goals as goal

pub returns-in_default-clause-leaves : goal.returns-in_default-clause-leaves
returns-in_default-clause-leaves c =
    none_stays c.args.leaves.now c.get_mut.follows.lender-at-none c.args.constants.now c.args.observer.now
    c.get_mut.follows.holds-at-none (sym c.in_default.ensures.value)

pub returns-in_default-clause-counts : goal.returns-in_default-clause-counts
returns-in_default-clause-counts c =
    none_counted c.args.leaves.now c.get_mut.follows.lender-at-none c.get_mut.follows.holds-at-none

pub returns-in_default-clause-observers : goal.returns-in_default-clause-observers
returns-in_default-clause-observers c =
    none_seen c.args.leaves.now c.get_mut.follows.lender-at-none c.args.constants.now c.args.observer.now
    c.get_mut.follows.holds-at-none (sym c.in_default.ensures.value)

pub returns-then-is_empty-clause-leaves : goal.returns-then-is_empty-clause-leaves
returns-then-is_empty-clause-leaves c =
    let was = c.in-Some.leaf.now in
    let w : Leaf = record { observers = c.remove.new.self; captured = was.captured } in
    let r = rewrites c.args.leaves.now (c.get_mut.follows.lender w) c.args.constants.now was w c.in-Some.ensures.value
    (c.get_mut.follows.holds w) in
    let ends = ends_after c.args.leaves.now (c.get_mut.follows.lender w) c.remove-then-is_empty.new.self
    c.args.constants.now was w r c.remove-then-is_empty.ensures.updates.0 in
    let none = none_left (sorted.keys c.remove.new.self) (c.is_empty.ensures.0 c.if-is_empty.true) in
    goes_there c.args.leaves.now c.remove-then-is_empty.new.self c.args.constants.now c.args.observer.now was
    c.remove.new.self ends c.remove.ensures.updates.0 none

pub returns-then-is_empty-clause-observers : goal.returns-then-is_empty-clause-observers
returns-then-is_empty-clause-observers c =
    let was = c.in-Some.leaf.now in
    let w : Leaf = record { observers = c.remove.new.self; captured = was.captured } in
    let r = rewrites c.args.leaves.now (c.get_mut.follows.lender w) c.args.constants.now was w c.in-Some.ensures.value
    (c.get_mut.follows.holds w) in
    let ends = ends_after c.args.leaves.now (c.get_mut.follows.lender w) c.remove-then-is_empty.new.self
    c.args.constants.now was w r c.remove-then-is_empty.ensures.updates.0 in
    let none = none_left (sorted.keys c.remove.new.self) (c.is_empty.ensures.0 c.if-is_empty.true) in
    seen_no_more c.args.leaves.now c.remove-then-is_empty.new.self c.args.constants.now c.args.observer.now was
    c.remove.new.self ends c.remove.ensures.updates.0 none

pub returns-else-is_empty-clause-leaves : goal.returns-else-is_empty-clause-leaves
returns-else-is_empty-clause-leaves c =
    let was = c.in-Some.leaf.now in
    let w : Leaf = record { observers = c.remove.new.self; captured = was.captured } in
    let r = rewrites c.args.leaves.now (c.get_mut.follows.lender w) c.args.constants.now was w c.in-Some.ensures.value
    (c.get_mut.follows.holds w) in
    let some = some_left c.is_empty.result (sorted.keys c.remove.new.self) c.is_empty.ensures.1 c.if-is_empty.false in
    stays_there c.args.leaves.now (c.get_mut.follows.lender w) c.args.constants.now c.args.observer.now was w r
    c.remove.ensures.updates.0 some

pub returns-else-is_empty-clause-counts : goal.returns-else-is_empty-clause-counts
returns-else-is_empty-clause-counts c =
    let was = c.in-Some.leaf.now in
    let w : Leaf = record { observers = c.remove.new.self; captured = was.captured } in
    let r = rewrites c.args.leaves.now (c.get_mut.follows.lender w) c.args.constants.now was w c.in-Some.ensures.value
    (c.get_mut.follows.holds w) in
    counted_still c.args.leaves.now (c.get_mut.follows.lender w) c.args.constants.now was w r (λ q. refl)

pub returns-else-is_empty-clause-observers : goal.returns-else-is_empty-clause-observers
returns-else-is_empty-clause-observers c =
    let was = c.in-Some.leaf.now in
    let w : Leaf = record { observers = c.remove.new.self; captured = was.captured } in
    let r = rewrites c.args.leaves.now (c.get_mut.follows.lender w) c.args.constants.now was w c.in-Some.ensures.value
    (c.get_mut.follows.holds w) in
    seen_set c.args.leaves.now (c.get_mut.follows.lender w) c.args.constants.now c.args.observer.now false was w r
    c.remove.ensures.updates.0
