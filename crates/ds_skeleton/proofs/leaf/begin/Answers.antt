use Rattle.std.proofs.Common.{cond, true, ap, ◌∙◌}
use Rattle.std.specs.List.{list_any}
use Rattle.std.specs.BTreeSet as sorted
use Rattle.pv_value.specs.Order.{order}
use Rattle.pv_words.specs.Parts.{same}
use Rattle.ds_skeleton.specs.Leaves.{Leaf}
use Rattle.ds_skeleton.proofs.Leaves.{there_too, counted_there, seen_there}
use Rattle.ds_skeleton.proofs.leaf.begin.Goals as goal

pub returns-clause-leaves : goal.returns-clause-leaves
returns-clause-leaves c =
    let w : Leaf = record { observers = c.insert.new.self; captured = c.args.captured } in
    there_too c.args.leaves.now c.insert-2.new.self c.args.constants w
    (c.requires, c.in_ok-insert-2.ensures.updates.0)

pub returns-clause-counts : goal.returns-clause-counts
returns-clause-counts c =
    let w : Leaf = record { observers = c.insert.new.self; captured = c.args.captured } in
    counted_there c.args.leaves.now c.insert-2.new.self c.args.constants w
    (c.requires, c.in_ok-insert-2.ensures.updates.0)

pub returns-clause-observers : goal.returns-clause-observers
returns-clause-observers c =
    let w : Leaf = record { observers = c.insert.new.self; captured = c.args.captured } in
    seen_there c.args.leaves.now c.insert-2.new.self c.args.constants c.args.observer.now w
    (c.requires, c.in_ok-insert-2.ensures.updates.0)
    (λ o. c.in_ok-insert.ensures.updates.0 o
    ∙ ap (λ v. cond (same v o) true (sorted.contains order c.new-observers.result o)) c.in_ok-copy.ensures
    ∙ ap (λ ks. cond (same c.args.observer.now o) true (list_any (same o) ks)) c.new-observers.ensures.empty)
