use Rattle.std.proofs.Common.{◌≡◌, ◌||◌, Some, None, rules, ap, sym, ◌∙◌}
use Rattle.ds_space.specs.Lemmas.Keys.{or_false}
use Rattle.ds_skeleton.specs.Places.{stand}
use Rattle.ds_skeleton.specs.Shapes.{at_leaf}
use Rattle.ds_skeleton.specs.Indexes.{touched_by}
use Rattle.ds_skeleton.specs.Keys.{has_key}
use Rattle.ds_skeleton.proofs.Answered.{then_ok}
use Rattle.ds_skeleton.proofs.Parts.{touched_at}
use Rattle.ds_skeleton.proofs.touching.put_touched.Goals as goal

pub returns-in-Some : goal.returns-in-Some
returns-in-Some c =
    let leaves = c.args.shape.now.leaves in
    let found = stand c.args.shape.now.outline c.args.value.now in
    let is : at_leaf c.args.shape.now.leaves (stand c.args.shape.now.outline c.args.value.now)
    ≡ Some c.in-Some.parts = search rules in
    then_ok c.put_last.result
    (λ keys q. keys q
    ∙ ap (λ b. has_key c.args.keys.now.items q || b)
    (ap (λ e. touched_by leaves e q) (sym is) ∙ touched_at leaves found q))
    c.put_last.ensures

pub returns-in-None : goal.returns-in-None
returns-in-None c q =
    let leaves = c.args.shape.now.leaves in
    let found = stand c.args.shape.now.outline c.args.value.now in
    let none : at_leaf c.args.shape.now.leaves (stand c.args.shape.now.outline c.args.value.now)
    ≡ None = search rules in
    sym (or_false (has_key c.args.keys.now.items q))
    ∙ ap (λ b. has_key c.args.keys.now.items q || b)
    (ap (λ e. touched_by leaves e q) (sym none) ∙ touched_at leaves found q)
