use Rattle.std.proofs.Common.{◌||◌, ap, sym, ◌∙◌}
use Rattle.std.specs.List.{list_any}
use Rattle.std.specs.Map.Iter.{deref}
use Rattle.std.proofs.lemmas.Map.Iter.{iter_end}
use Rattle.std.specs.BTreeMap as tree
use Rattle.ds_space.specs.Wants.{gives}
use Rattle.ds_space.specs.Lemmas.Keys.{any-seen_push}
use Rattle.ds_space.proofs.collecting.collected.Goals as goal

pub loop-observe-preserved : goal.loop-observe-preserved
loop-observe-preserved c q =
    let vs = tree.values c.args.rows.now in
    c.in_ok-put_wanted.ensures q
    ∙ ap (λ m. m || list_any (gives q c.in-Some.observe.now) vs) (c.loop-observe.invariant q)
    ∙ sym (any-seen_push (λ o. list_any (gives q o) vs) c.loop-observe.yielded c.in-Some.observe)

pub returns : goal.returns
returns c q =
    let vs = tree.values c.args.rows.now in
    let end =
    iter_end deref vs c.loop-observe.yielded _ _ _ _
    (c.into_iter-observe-iterator.ensures.into_iter_gives ∙ c.values-observe-items.ensures.rest)
    c.loop-observe.yielded_by c.in-None.is c.next.ensures.steps in
    c.loop-observe.invariant q ∙ ap (list_any (λ o. list_any (gives q o) vs)) end.0
