use Rattle.std.proofs.Common.{◌≡◌, ◌<◌, true, false, Some, is_some, slice_set, ap, sym, ◌∙◌, subst}
use Rattle.std.specs.BTreeMap as tree
use Rattle.ds_skeleton.specs.Shapes.{shape_at, AreInOrder}
use Rattle.ds_skeleton.specs.Indexes.{IsIndexOf}
use Rattle.ds_skeleton.proofs.Comings.{went_known, went_last}
use Rattle.ds_skeleton.proofs.Entries.{some_is}
use Rattle.ds_skeleton.proofs.Moves.{was_kept}
use Rattle.ds_skeleton.proofs.Places.{IsAt, IsGap, gap_in, found, missing, replaced, removed}
use Rattle.ds_skeleton.proofs.outlines.unobserve_at.Goals as goal

clash : true ≡ false → ⊥
clash e = cc

pub returns-in_default-clause-index : goal.returns-in_default-clause-index
returns-in_default-clause-index c =
    absurd (clash
    (sym (was_kept (tree.keys c.args.values.now) (tree.keys c.args.values.now) c.args.shapes.now.items c.args.value.now
    c.args.place.now c.requires.place c.requires.index)
    ∙ ap is_some (missing c.args.place.now.outline c.args.shapes.now.items c.in_default.field-0
    (subst (IsGap c.args.place.now.outline c.in_default.field-0) c.deref.ensures.value
    (gap_in c.args.place.now.outline c.deref.result.now c.position.result c.in_default.field-0 c.position.ensures.place
    c.in_default.is)))))

pub returns-then-index-le1-clause-in_order : goal.returns-then-index-le1-clause-in_order
returns-then-index-le1-clause-in_order c =
    let here = subst (IsAt c.args.place.now.outline c.in-Ok.at) c.deref.ensures.value
    (c.in-Ok.ensures.range, c.in-Ok.ensures.place) in
    subst AreInOrder (sym c.remove.ensures.items)
    (removed c.args.place.now.outline c.args.shapes.now.items c.in-Ok.at c.index.result.now c.requires.in_order
    here).in_order

pub returns-then-index-le1-clause-index : goal.returns-then-index-le1-clause-index
returns-then-index-le1-clause-index c =
    let here = subst (IsAt c.args.place.now.outline c.in-Ok.at) c.deref.ensures.value
    (c.in-Ok.ensures.range, c.in-Ok.ensures.place) in
    subst (IsIndexOf (tree.keys c.args.values.now) (tree.keys c.args.values.now)) (sym c.remove.ensures.items)
    (went_last (tree.keys c.args.values.now) (tree.keys c.args.values.now) c.args.shapes.now.items _ c.args.value.now
    c.args.place.now c.index.result.now c.requires.place c.requires.gone c.requires.index
    (found c.args.place.now.outline c.args.shapes.now.items c.in-Ok.at c.index.result.now c.requires.in_order
    here ∙ ap Some (sym c.index.ensures))
    c.if-index-le1.true
    (removed c.args.place.now.outline c.args.shapes.now.items c.in-Ok.at c.index.result.now c.requires.in_order
    here))

pub returns-clause-in_order : goal.returns-clause-in_order
returns-clause-in_order c =
    let here = subst (IsAt c.args.place.now.outline c.in-Ok.at) c.deref.ensures.value
    (c.in-Ok.ensures.range, c.in-Ok.ensures.place) in
    (replaced c.args.place.now.outline c.args.shapes.now.items c.in-Ok.at c.unwatch.new.self c.index_mut.result.now
    c.requires.in_order here (c.unwatch.ensures.outline ∙ ap (λ s. s.outline) c.index_mut.ensures.value)).in_order

pub returns-clause-index : goal.returns-clause-index
returns-clause-index c =
    let here = subst (IsAt c.args.place.now.outline c.in-Ok.at) c.deref.ensures.value
    (c.in-Ok.ensures.range, c.in-Ok.ensures.place) in
    let read : shape_at c.args.shapes.now.items c.args.place.now.outline ≡ Some c.index.result.now =
    found c.args.place.now.outline c.args.shapes.now.items c.in-Ok.at c.index.result.now c.requires.in_order here
    ∙ ap Some (sym c.index.ensures) in
    let lent : shape_at c.args.shapes.now.items c.args.place.now.outline ≡ Some c.index_mut.result.now =
    found c.args.place.now.outline c.args.shapes.now.items c.in-Ok.at c.index_mut.result.now c.requires.in_order here
    ∙ ap Some (sym c.index_mut.ensures.value) in
    let many = subst (λ s. 1 < s.observations) (some_is c.index.result.now c.index_mut.result.now (sym read ∙ lent))
    c.if-index-le1.false in
    went_known (tree.keys c.args.values.now) (tree.keys c.args.values.now) c.args.shapes.now.items
    (slice_set c.args.shapes.now.items c.in-Ok.at c.unwatch.new.self) c.args.value.now c.args.place.now
    c.index_mut.result.now c.unwatch.new.self c.requires.place c.requires.gone c.requires.index lent many
    c.unwatch.ensures
    (replaced c.args.place.now.outline c.args.shapes.now.items c.in-Ok.at c.unwatch.new.self c.index_mut.result.now
    c.requires.in_order here (c.unwatch.ensures.outline ∙ ap (λ s. s.outline) c.index_mut.ensures.value))
