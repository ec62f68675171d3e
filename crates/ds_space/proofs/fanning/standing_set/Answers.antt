use Rattle.std.proofs.Common.{◌||◌, map, ap, sym, ◌∙◌}
use Rattle.std.specs.Map.Iter.{deref}
use Rattle.pv_words.specs.Parts.{same}
use Rattle.ds_space.specs.Changes.{among}
use Rattle.ds_space.specs.Lemmas.Keys.{any-seen_push}
use Rattle.ds_space.proofs.fanning.standing_set.Goals as goal

pub loop-value-preserved : goal.loop-value-preserved
loop-value-preserved c q =
    c.in_ok-put_standing.ensures q
    ∙ ap (λ m. m || same q c.in_ok-copy.field-0) (c.loop-value.invariant q)
    ∙ ap (λ w. among q (map deref c.loop-value.yielded) || same q w) c.in_ok-copy.ensures
    ∙ sym (any-seen_push (same q) c.loop-value.yielded c.in-Some.value)
