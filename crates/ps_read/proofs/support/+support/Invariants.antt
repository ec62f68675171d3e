use Rattle.std.proofs.Common.{◌≡◌, drop}
use Rattle.ps_schema.specs.Patterns.{patterns}
use Rattle.ps_schema.specs.Lemmas.Measures.{measure, measure_all, measure_fields}
use Rattle.ps_schema.specs.View.{listed_fields}
use Rattle.ps_read.specs.Written.{are_supported, fields_supported}
use Rattle.ps_read.proofs.support.+support.Given as goal

abbrev pub decreases-is_supported : goal.decreases-is_supported
decreases-is_supported l = measure l.pattern.now

abbrev pub decreases-are_supported : goal.decreases-are_supported
decreases-are_supported l = measure_all (patterns l.all.now)

abbrev pub decreases-fields_supported : goal.decreases-fields_supported
decreases-fields_supported l = measure_fields (listed_fields l.fields.now)

abbrev pub invariant-are_supported-loop-pattern : goal.invariant-are_supported-loop-pattern
invariant-are_supported-loop-pattern l =
    are_supported (patterns (drop l.pattern-index l.all)) ≡ are_supported (patterns l.all)

abbrev pub invariant-fields_supported-loop-field : goal.invariant-fields_supported-loop-field
invariant-fields_supported-loop-field l =
    fields_supported (listed_fields (drop l.field-index l.fields)) ≡ fields_supported (listed_fields l.fields)
