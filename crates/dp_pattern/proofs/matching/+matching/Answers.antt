use Rattle.std.proofs.Common.{arith}
use Rattle.dp_pattern.specs.Lemmas.Falls.{field_measure_at}
use Rattle.dp_pattern.proofs.matching.+matching.Goals as goal

pub all_match-matches-requires : goal.all_match-matches-requires
all_match-matches-requires t c = (
  omega (
    arith,
    field_measure_at c.args.fields.now c.loop-field.field-index c.field-item.result (omega arith) c.field-item.is,
  ),
  tt,
)
