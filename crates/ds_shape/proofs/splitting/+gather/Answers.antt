use Rattle.std.proofs.Common.{◌≡◌, List, [], ◌∷◌, ◌++◌, map, append_assoc, arith, sym, ap, ◌∙◌}
use Rattle.dp_pattern.specs.Lemmas.Falls.{field_measure_at}
use Rattle.ds_shape.specs.Splitting.{step_of, test_under, constant_under, tests, constants, captures}
use Rattle.ds_shape.proofs.Fields.{tests_of_field, constants_of_field, captures_of_field}
use Rattle.ds_shape.proofs.splitting.+gather.Goals as goal

pub gather_fields-gather-requires : goal.gather_fields-gather-requires
gather_fields-gather-requires t c = (
  omega (
    arith,
    field_measure_at c.args.fields.now c.loop-field.field-index c.field-item.result (omega arith) c.field-item.is,
  ),
  tt,
)

-- what was found and then what is left is all, also with one more found
one_more : {A : Type 0} (new old fresh left rest all : List A) → new ≡ old ++ fresh → left ≡ fresh ++ rest
    → old ++ left ≡ all → new ++ rest ≡ all
one_more new old fresh left rest all e f h =
    ap (λ xs. xs ++ rest) e ∙ append_assoc old fresh rest ∙ ap (λ xs. old ++ xs) (sym f) ∙ h

pub gather_fields-loop-field-preserved : goal.gather_fields-loop-field-preserved
gather_fields-loop-field-preserved t c =
    let fs = c.args.fields.now in
    let i = c.loop-field.field-index in
    let path = c.args.path.now in
    let g = c.args.group.now in
    let f = c.field-item.result in
    let old = c.loop-field.found in
    let part : c.in_ok-part.part ≡ path ++ step_of g f.key ∷ [] =
    c.in_ok-part.ensures ∙ ap (λ s. path ++ s ∷ []) c.in_ok-step_of.ensures in (
      one_more _ old.tests.items _ _ _ _
          (c.in_ok-gather.ensures.tests ∙ ap (λ p. old.tests.items ++ map (test_under p) (tests f.pattern)) part)
          (tests_of_field path g fs i f (omega arith) c.field-item.is) c.loop-field.invariant.0,
      one_more _ old.constants.items _ _ _ _
          (c.in_ok-gather.ensures.constants
          ∙ ap (λ p. old.constants.items ++ map (constant_under p) (constants f.pattern)) part)
          (constants_of_field path g fs i f (omega arith) c.field-item.is) c.loop-field.invariant.1,
      one_more _ old.captures.items _ _ _ _
          (c.in_ok-gather.ensures.captures
          ∙ ap (λ p. old.captures.items ++ map (λ q. p ++ q) (captures f.pattern)) part)
          (captures_of_field path g fs i f (omega arith) c.field-item.is) c.loop-field.invariant.2,
    )
