use Rattle.std.proofs.Common.{◌≡◌, ◌+◌, true, cond, Some, None, rules, ap, sym, ◌∙◌}
use Rattle.std.specs.BTreeMap as tree
use Rattle.pv_value.specs.Order.{order}
use Rattle.ds_skeleton.specs.Places.{stand, is_found}
use Rattle.ds_skeleton.specs.Leaves.{number}
use Rattle.ds_skeleton.proofs.Answered.{then_ok}
use Rattle.ds_skeleton.proofs.Parts.{no_parts_more}
use Rattle.ds_skeleton.proofs.capturing.count_captures.Goals as goal

pub returns-in-Some : goal.returns-in-Some
returns-in-Some c =
    let is : stand c.args.outline.now c.args.value.now ≡ Some c.in-Some.parts = search rules in
    then_ok c.count_parts.result
    (λ counts q. counts q
    ∙ ap (λ e. number (tree.get order c.args.counts.now q) + cond (is_found e c.args.constants.now q) 1 0) (sym is))
    c.count_parts.ensures

pub returns-in-None : goal.returns-in-None
returns-in-None c q =
    let is : stand c.args.outline.now c.args.value.now ≡ None = search rules in
    no_parts_more c.args.outline.now c.args.value.now is true c.args.constants.now q
    (number (tree.get order c.args.counts.now q))
