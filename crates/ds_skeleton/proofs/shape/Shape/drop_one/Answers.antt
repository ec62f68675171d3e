use Rattle.std.proofs.Common.{◌≡◌, ◌-◌, cond, ◌&&◌, Some, None, refl, rules, ap, ◌∙◌}
use Rattle.ds_skeleton.specs.Places.{stand}
use Rattle.ds_skeleton.specs.Leaves.{leaf_at, has_leaf_at, captured_at}
use Rattle.ds_skeleton.specs.Shapes.{at_leaf}
use Rattle.ds_skeleton.proofs.Answered.{then_three}
use Rattle.ds_skeleton.proofs.Parts.{at_parts, found_at, none_less_at}
use Rattle.ds_skeleton.proofs.shape.Shape.drop_one.Goals as goal

pub returns-in-Some : goal.returns-in-Some
returns-in-Some c =
    let old = c.args.self.now.leaves in
    let s = c.args.self.now.outline in
    let found : at_leaf c.args.self.now.leaves (stand c.args.self.now.outline c.args.value.now)
    ≡ Some c.in-Some.parts = search rules in
    let is = found_at old (stand s c.args.value.now) c.in-Some.parts found in
    then_three c.drop_one.result
    (λ leaves counts observers. record {
      outline = refl;
      observations = refl;
      leaves = leaves;
      counts = λ k l.
          counts k l ∙ ap (λ b. captured_at (leaf_at old k) l - cond (has_leaf_at old k && b) 1 0)
          (at_parts s c.args.value.now c.in-Some.parts is k l);
      observers = observers;
    })
    c.drop_one.ensures.leaves c.drop_one.ensures.counts c.drop_one.ensures.observers

pub returns-in-None : goal.returns-in-None
returns-in-None c =
    let old = c.args.self.now.leaves in
    let found = stand c.args.self.now.outline c.args.value.now in
    let none : at_leaf c.args.self.now.leaves (stand c.args.self.now.outline c.args.value.now) ≡ None = search rules in
    record {
      outline = refl;
      observations = refl;
      leaves = λ k. refl;
      counts = λ k l. none_less_at old found none k l (captured_at (leaf_at old k) l);
      observers = λ k o. refl;
    }
