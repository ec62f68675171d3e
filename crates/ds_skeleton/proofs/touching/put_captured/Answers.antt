use Rattle.std.proofs.Common.{◌&&◌, ◌||◌, ap, ◌∙◌}
use Rattle.std.specs.List.{list_any}
use Rattle.std.specs.Map.Iter.{deref_pair}
use Rattle.std.proofs.lemmas.Map.Iter.{iter_end}
use Rattle.pv_words.specs.Parts.{same}
use Rattle.ds_skeleton.specs.Keys.{has_key}
use Rattle.ds_skeleton.proofs.Keys.{one_captured, counted, lookup_counted_in_order}
use Rattle.ds_skeleton.proofs.touching.put_captured.Goals as goal

pub loop-captures-preserved : goal.loop-captures-preserved
loop-captures-preserved c q =
    one_captured c.args.observer.now q c.loop-captures.yielded c.in-Some.captures c.in-Some.count _ _ _
    (c.in_ok-put_counted.ensures q) (c.loop-captures.invariant q)

pub returns : goal.returns
returns c q =
    let end =
    iter_end deref_pair c.args.captured.now.entries c.loop-captures.yielded _ _ _ _
    (c.into_iter-captures-iterator.ensures.into_iter_gives ∙ c.iter-captures-items.ensures.rest)
    c.loop-captures.yielded_by c.in-None.is c.next.ensures.steps in
    c.loop-captures.invariant q
    ∙ ap (λ t. has_key c.args.keys.now.items q || (same c.args.observer.now q.key && t))
    (ap (list_any (counted q.value)) end.0
    ∙ lookup_counted_in_order q.value c.args.captured.now.entries c.iter-captures-items.ensures.ordered)
