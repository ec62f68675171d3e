use Rattle.std.proofs.Common.{◌||◌, Bool, map, ap, sym, ◌∙◌}
use Rattle.std.specs.List.{list_any}
use Rattle.std.specs.Map.Iter.{deref}
use Rattle.std.specs.BTreeSet as sorted
use Rattle.pv_value.specs.Plain.{Plain}
use Rattle.pv_value.specs.Order.{order}
use Rattle.dp_pattern.specs.Matching.{matched}
use Rattle.ds_space.specs.Wants.{is_one, is_key}
use Rattle.ds_space.specs.Lemmas.Keys.{or_assoc, any-seen_push}
use Rattle.ds_space.proofs.collecting.put_captured.Goals as goal

pub loop-value-preserved : goal.loop-value-preserved
loop-value-preserved c q =
    let p : Plain → Bool = λ v. is_key q c.args.observe.now (matched c.args.pattern.now v) in
    let old : Bool = sorted.contains order c.args.keys.now q in
    c.in_ok-put.ensures q
    ∙ ap (λ m. m || is_one q c.in_ok-key.key) (c.loop-value.invariant q)
    ∙ ap (λ m. (old || list_any p (map deref c.loop-value.yielded)) || m) (c.in_ok-key.ensures q)
    ∙ or_assoc old (list_any p (map deref c.loop-value.yielded)) (p c.in-Some.value.now)
    ∙ ap (λ m. old || m) (sym (any-seen_push p c.loop-value.yielded c.in-Some.value))
