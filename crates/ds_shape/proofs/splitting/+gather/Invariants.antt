-- What was found, and then what the fields that are left have, is what was found before and all fields have.
use Rattle.std.proofs.Common.{◌≡◌, ◌++◌, drop, map}
use Rattle.dp_pattern.specs.Lemmas.Measures.{measure, measure_fields}
use Rattle.dp_pattern.specs.View.{listed_fields}
use Rattle.ds_shape.specs.Splitting.{test_under, constant_under, field_tests, field_constants, field_captures}
use Rattle.ds_shape.proofs.splitting.+gather.Given as goal

abbrev pub decreases-gather : goal.decreases-gather
decreases-gather l = measure l.pattern.now

abbrev pub decreases-gather_fields : goal.decreases-gather_fields
decreases-gather_fields l = measure_fields (listed_fields l.fields.now)

abbrev pub invariant-gather_fields-loop-field : goal.invariant-gather_fields-loop-field
invariant-gather_fields-loop-field l = (
    l.found.tests.items ++ map (test_under l.path) (field_tests l.group (listed_fields (drop l.field-index l.fields)))
    ≡ l.initial.found.tests.items ++ map (test_under l.path) (field_tests l.group (listed_fields l.fields))
    ) × (
    l.found.constants.items
    ++ map (constant_under l.path) (field_constants l.group (listed_fields (drop l.field-index l.fields)))
    ≡ l.initial.found.constants.items ++ map (constant_under l.path) (field_constants l.group (listed_fields l.fields))
    ) × (
    l.found.captures.items
    ++ map (λ p. l.path ++ p) (field_captures l.group (listed_fields (drop l.field-index l.fields)))
    ≡ l.initial.found.captures.items ++ map (λ p. l.path ++ p) (field_captures l.group (listed_fields l.fields))
    )
