use Rattle.std.proofs.Common.{arith}
use Rattle.dp_pattern.specs.Lemmas.Falls.{field_measure_at}
use Rattle.dp_pattern.proofs.matching.+gather.Goals as goal

pub gather_all-gather-requires : goal.gather_all-gather-requires
gather_all-gather-requires t c = (
  omega (
    arith,
    field_measure_at c.args.fields.now c.loop-field.field-index c.field-item.result (omega arith) c.field-item.is,
  ),
  tt,
)
