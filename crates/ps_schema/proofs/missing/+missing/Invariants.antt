use Rattle.std.proofs.Common.{◌≡◌, ◌+◌, ◌*◌, drop}
use Rattle.ps_schema.specs.Patterns.{patterns}
use Rattle.ps_schema.specs.Lemmas.Measures.{measure, measure_all, measure_fields}
use Rattle.ps_schema.specs.Names.{missing_in_all, missing_in_fields}
use Rattle.ps_schema.specs.View.{listed_fields}
use Rattle.ps_schema.proofs.missing.+missing.Given as goal

abbrev pub decreases-missing : goal.decreases-missing
decreases-missing l = 2 * measure l.pattern.now

abbrev pub decreases-missing_in_both : goal.decreases-missing_in_both
decreases-missing_in_both l = 2 * (measure l.first.now + measure l.second.now) + 1

abbrev pub decreases-missing_in_items : goal.decreases-missing_in_items
decreases-missing_in_items l = 2 * (measure_all (patterns l.items.now) + measure l.rest.now) + 1

abbrev pub decreases-missing_in_all : goal.decreases-missing_in_all
decreases-missing_in_all l = 2 * measure_all (patterns l.all.now)

abbrev pub decreases-missing_in_fields : goal.decreases-missing_in_fields
decreases-missing_in_fields l = 2 * measure_fields (listed_fields l.fields.now)

abbrev pub invariant-missing_in_all-loop-pattern : goal.invariant-missing_in_all-loop-pattern
invariant-missing_in_all-loop-pattern l =
    missing_in_all l.defs (patterns (drop l.pattern-index l.all)) ≡ missing_in_all l.defs (patterns l.all)

abbrev pub invariant-missing_in_fields-loop-field : goal.invariant-missing_in_fields-loop-field
invariant-missing_in_fields-loop-field l =
    missing_in_fields l.defs (listed_fields (drop l.field-index l.fields))
    ≡ missing_in_fields l.defs (listed_fields l.fields)
