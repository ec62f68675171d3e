use Rattle.std.proofs.Common.{◌+◌, cond, ap, sym, ◌∙◌}
use Rattle.ds_skeleton.specs.Places.{stands}
use Rattle.ds_skeleton.proofs.Counts.{count-seen_push}
use Rattle.ds_skeleton.proofs.capturing.captures_in.Goals as goal

pub loop-value-preserved : goal.loop-value-preserved
loop-value-preserved c q =
    c.in_ok-count_captures.ensures q
    ∙ ap (λ n. n + cond (stands c.args.outline.now c.args.constants.now q c.in-Some.value.now) 1 0)
    (c.loop-value.invariant q)
    ∙ sym (count-seen_push (stands c.args.outline.now c.args.constants.now q) c.loop-value.yielded c.in-Some.value)
