use Rattle.std.proofs.Common.{◌≡◌, Some, None, rules, ap, sym, ◌∙◌}
use Rattle.ds_shape.specs.Paths.{sequence_at}
use Rattle.ds_skeleton.specs.Places.{constants_in, found}
use Rattle.ds_skeleton.proofs.Answered.{then_if}
use Rattle.ds_skeleton.proofs.Parts.{stand_found}
use Rattle.ds_skeleton.proofs.standing.stand.Goals as goal

pub returns-in-Some : goal.returns-in-Some
returns-in-Some c =
    let s = c.args.outline.now in
    let v = c.args.value.now in
    let is : constants_in c.args.outline.now c.args.value.now ≡ Some c.in-Some.constants = search rules in
    then_if c.with_captures.result
    (λ parts h. h ∙ ap (λ o. found o (sequence_at s.captures v)) (sym is) ∙ sym (stand_found s v))
    c.with_captures.ensures

pub returns-in-None : goal.returns-in-None
returns-in-None c =
    let s = c.args.outline.now in
    let v = c.args.value.now in
    let is : constants_in c.args.outline.now c.args.value.now ≡ None = search rules in
    ap (λ o. found o (sequence_at s.captures v)) (sym is) ∙ sym (stand_found s v)
