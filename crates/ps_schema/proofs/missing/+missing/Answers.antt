use Rattle.std.proofs.Common.{arith}
use Rattle.ps_schema.specs.Lemmas.Falls.{pattern_at, field_at}
use Rattle.ps_schema.proofs.missing.+missing.Goals as goal

pub missing_in_all-missing-requires : goal.missing_in_all-missing-requires
missing_in_all-missing-requires t c = (
  omega (
    arith,
    pattern_at c.args.all.now c.loop-pattern.pattern-index c.pattern-item.result (omega arith) c.pattern-item.is,
  ),
  tt,
)

pub missing_in_fields-missing-requires : goal.missing_in_fields-missing-requires
missing_in_fields-missing-requires t c = (
  omega (
    arith,
    field_at c.args.fields.now c.loop-field.field-index c.field-item.result (omega arith) c.field-item.is,
  ),
  tt,
)
