use Rattle.std.proofs.Common.{cond, true, refl, ap, ◌∙◌}
use Rattle.std.specs.BTreeSet as sorted
use Rattle.pv_value.specs.Order.{order}
use Rattle.pv_words.specs.Parts.{same}
use Rattle.ds_skeleton.specs.Leaves.{Leaf}
use Rattle.ds_skeleton.proofs.Leaves.{rewrites, still_there, counted_alike, seen_set}
use Rattle.ds_skeleton.proofs.leaf.join.Goals as goal

pub returns-clause-leaves : goal.returns-clause-leaves
returns-clause-leaves c =
    let was = c.in-Some.leaf.now in
    let w : Leaf = record { observers = c.insert.new.self; captured = was.captured } in
    still_there c.args.leaves.now (c.get_mut.follows.lender w) c.args.constants.now was w
    (rewrites c.args.leaves.now (c.get_mut.follows.lender w) c.args.constants.now was w c.in-Some.ensures.value
    (c.get_mut.follows.holds w))

pub returns-clause-counts : goal.returns-clause-counts
returns-clause-counts c =
    let was = c.in-Some.leaf.now in
    let w : Leaf = record { observers = c.insert.new.self; captured = was.captured } in
    counted_alike c.args.leaves.now (c.get_mut.follows.lender w) c.args.constants.now was w
    (rewrites c.args.leaves.now (c.get_mut.follows.lender w) c.args.constants.now was w c.in-Some.ensures.value
    (c.get_mut.follows.holds w))
    (λ q. refl)

pub returns-clause-observers : goal.returns-clause-observers
returns-clause-observers c =
    let was = c.in-Some.leaf.now in
    let w : Leaf = record { observers = c.insert.new.self; captured = was.captured } in
    seen_set c.args.leaves.now (c.get_mut.follows.lender w) c.args.constants.now c.args.observer.now true was w
    (rewrites c.args.leaves.now (c.get_mut.follows.lender w) c.args.constants.now was w c.in-Some.ensures.value
    (c.get_mut.follows.holds w))
    (λ o. c.in_ok-insert.ensures.updates.0 o
    ∙ ap (λ v. cond (same v o) true (sorted.contains order was.observers o)) c.in_ok-another.ensures)
