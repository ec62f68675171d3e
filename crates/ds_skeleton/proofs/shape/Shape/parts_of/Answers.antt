use Rattle.std.proofs.Common.{◌≡◌, true, false, Some, None, rules, sym, ◌∙◌}
use Rattle.ds_skeleton.specs.Places.{constants_in}
use Rattle.ds_skeleton.specs.Leaves.{has_leaf_at}
use Rattle.ds_skeleton.proofs.Answered.{then_if}
use Rattle.ds_skeleton.proofs.Parts.{leaf_stands, no_leaf_stands, no_constants}
use Rattle.ds_skeleton.proofs.shape.Shape.parts_of.Goals as goal

pub returns-in_default : goal.returns-in_default
returns-in_default c =
    let is : constants_in c.args.self.now.outline c.args.value.now ≡ None = search rules in
    no_constants c.args.self.now.leaves c.args.self.now.outline c.args.value.now is

pub returns-then-contains_key : goal.returns-then-contains_key
returns-then-contains_key c =
    let leaves = c.args.self.now.leaves in
    let is : constants_in c.args.self.now.outline c.args.value.now ≡ Some c.in-Some.constants = search rules in
    let some : has_leaf_at c.args.self.now.leaves c.in-Some.constants ≡ true = search rules in
    then_if c.with_captures.result
    (λ parts h. h ∙ leaf_stands leaves c.args.self.now.outline c.args.value.now c.in-Some.constants is some)
    c.with_captures.ensures

pub returns : goal.returns
returns c =
    let leaves = c.args.self.now.leaves in
    let is : constants_in c.args.self.now.outline c.args.value.now ≡ Some c.in-Some.constants = search rules in
    let none : has_leaf_at c.args.self.now.leaves c.in-Some.constants ≡ false = search rules in
    no_leaf_stands leaves c.args.self.now.outline c.args.value.now c.in-Some.constants is none
