use Rattle.std.proofs.Common.{arith}
use Rattle.ps_schema.specs.Lemmas.Falls.{pattern_at, field_at}
use Rattle.ps_read.proofs.support.+support.Goals as goal

pub are_supported-is_supported-requires : goal.are_supported-is_supported-requires
are_supported-is_supported-requires t c = (
  omega (
    arith,
    pattern_at c.args.all.now c.loop-pattern.pattern-index c.pattern-item.result (omega arith) c.pattern-item.is,
  ),
  tt,
)

pub fields_supported-is_supported-requires : goal.fields_supported-is_supported-requires
fields_supported-is_supported-requires t c = (
  omega (
    arith,
    field_at c.args.fields.now c.loop-field.field-index c.field-item.result (omega arith) c.field-item.is,
  ),
  tt,
)
