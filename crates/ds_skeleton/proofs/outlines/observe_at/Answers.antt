use Rattle.std.proofs.Common.{Some, slice_set, ap, sym, ◌∙◌, subst}
use Rattle.std.specs.BTreeMap as tree
use Rattle.ds_skeleton.specs.Shapes.{AreInOrder}
use Rattle.ds_skeleton.specs.Indexes.{IsIndexOf}
use Rattle.ds_skeleton.proofs.Answered.{then_ok, then_two}
use Rattle.ds_skeleton.proofs.Comings.{came, shows_known, shows_new}
use Rattle.ds_skeleton.proofs.Places.{IsAt, IsGap, found, missing, replaced, inserted}
use Rattle.ds_skeleton.proofs.outlines.observe_at.Goals as goal

pub returns-in-Ok-clause-in_order : goal.returns-in-Ok-clause-in_order
returns-in-Ok-clause-in_order c =
    let here = subst (IsAt c.args.place.outline c.in-Ok.at) c.deref.ensures.value
    (c.in-Ok.ensures.range, c.in-Ok.ensures.place) in
    then_ok c.watch.result
    (λ o. (replaced c.args.place.outline c.args.shapes.now.items c.in-Ok.at c.watch.new.self c.index_mut.result.now
    c.requires.in_order here (o ∙ ap (λ s. s.outline) c.index_mut.ensures.value)).in_order)
    c.watch.ensures.outline

pub returns-in-Ok-clause-index : goal.returns-in-Ok-clause-index
returns-in-Ok-clause-index c =
    let here = subst (IsAt c.args.place.outline c.in-Ok.at) c.deref.ensures.value
    (c.in-Ok.ensures.range, c.in-Ok.ensures.place) in
    then_two c.watch.result
    (λ o w seen are index. came (tree.keys c.args.values.now) seen c.args.shapes.now.items
    (slice_set c.args.shapes.now.items c.in-Ok.at c.watch.new.self) c.args.value.now c.args.place c.index_mut.result.now
    c.watch.new.self c.requires.place index
    (shows_known c.args.place.outline c.args.shapes.now.items c.index_mut.result.now
    (found c.args.place.outline c.args.shapes.now.items c.in-Ok.at c.index_mut.result.now c.requires.in_order
    here ∙ ap Some (sym c.index_mut.ensures.value)))
    (w are)
    (replaced c.args.place.outline c.args.shapes.now.items c.in-Ok.at c.watch.new.self c.index_mut.result.now
    c.requires.in_order here (o ∙ ap (λ s. s.outline) c.index_mut.ensures.value)))
    c.watch.ensures.outline c.watch.ensures.watched

pub returns-in_ok-insert-in-Err-clause-in_order : goal.returns-in_ok-insert-in-Err-clause-in_order
returns-in_ok-insert-in-Err-clause-in_order c =
    let gap = subst (IsGap c.args.place.outline c.in-Err.at) c.deref.ensures.value c.in-Err.ensures.place in
    subst AreInOrder (sym c.in_ok-insert-in-Err.ensures.items)
    (inserted c.args.place.outline c.args.shapes.now.items c.in-Err.at c.watch-in-Err.new.self c.requires.in_order
    (c.in_ok-watch-in-Err.ensures.outline ∙ c.new-shape.ensures.outline) gap).in_order

pub returns-in_ok-insert-in-Err-clause-index : goal.returns-in_ok-insert-in-Err-clause-index
returns-in_ok-insert-in-Err-clause-index c seen are index =
    let gap = subst (IsGap c.args.place.outline c.in-Err.at) c.deref.ensures.value c.in-Err.ensures.place in
    subst (IsIndexOf (tree.keys c.args.values.now) _) (sym c.in_ok-insert-in-Err.ensures.items)
    (came (tree.keys c.args.values.now) seen c.args.shapes.now.items _ c.args.value.now c.args.place
    c.new-shape.result c.watch-in-Err.new.self c.requires.place index
    (shows_new c.args.place.outline c.args.shapes.now.items c.new-shape.result c.new-shape.ensures
    (missing c.args.place.outline c.args.shapes.now.items c.in-Err.at gap))
    (c.in_ok-watch-in-Err.ensures.watched are)
    (inserted c.args.place.outline c.args.shapes.now.items c.in-Err.at c.watch-in-Err.new.self c.requires.in_order
    (c.in_ok-watch-in-Err.ensures.outline ∙ c.new-shape.ensures.outline) gap))
