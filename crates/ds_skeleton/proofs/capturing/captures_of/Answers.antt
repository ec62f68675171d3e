use Rattle.std.proofs.Common.{ℕ, List, ap, sym, ◌∙◌, subst}
use Rattle.std.specs.BTreeMap as tree
use Rattle.std.specs.Map.{lookup}
use Rattle.pv_value.specs.Plain.{Plain}
use Rattle.pv_words.specs.Parts.{same}
use Rattle.ds_facts.specs.Nearness.{IsNear}
use Rattle.ds_skeleton.specs.Leaves.{number}
use Rattle.ds_skeleton.proofs.Answered.{then_if}
use Rattle.ds_skeleton.proofs.Captures.{counted_near, counted_nowhere}
use Rattle.ds_skeleton.proofs.capturing.captures_of.Goals as goal

pub returns-in-Nowhere : goal.returns-in-Nowhere
returns-in-Nowhere c are q =
    let vs = tree.keys c.args.values.now in
    let near = subst (IsNear vs c.args.outline.now c.args.constants.now) c.in-Nowhere.is
    (c.in_ok-near.ensures.near vs are) in
    ap (λ (es : List (Plain × ℕ)). number (lookup (same q) es)) c.new.ensures.empty
    ∙ sym (counted_nowhere vs c.args.outline.now c.args.constants.now near q)

pub returns-then-len : goal.returns-then-len
returns-then-len c =
    then_if c.captures_among.result
    (λ counts h are q. let vs = tree.keys c.args.values.now in
    let near = subst (IsNear vs c.args.outline.now c.args.constants.now) c.in-Among.is
    (c.in_ok-near.ensures.near vs are) in
    h q
    ∙ counted_near vs c.in-Among.few.now.keys c.args.outline.now c.args.constants.now c.len-in-Among.ensures.ordered
    c.len.ensures.ordered near.0 near.1 q)
    c.captures_among.ensures
