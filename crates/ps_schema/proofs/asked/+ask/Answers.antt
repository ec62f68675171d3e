use Rattle.std.proofs.Common.{arith}
use Rattle.ps_schema.specs.Lemmas.Falls.{pattern_at, field_at}
use Rattle.ps_schema.proofs.asked.+ask.Goals as goal

pub ask_all-ask-requires : goal.ask_all-ask-requires
ask_all-ask-requires t c = (
  omega (
    arith,
    pattern_at c.args.all.now c.loop-pattern.pattern-index c.pattern-item.result (omega arith) c.pattern-item.is,
  ),
  tt,
)

pub ask_fields-ask-requires : goal.ask_fields-ask-requires
ask_fields-ask-requires t c = (
  omega (
    arith,
    field_at c.args.fields.now c.loop-field.field-index c.field-item.result (omega arith) c.field-item.is,
  ),
  tt,
)
