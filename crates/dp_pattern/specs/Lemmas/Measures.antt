-- What gets smaller from a pattern to each pattern inside it: measures of walks over patterns.
use Rattle.std.specs.Prelude.{ℕ, suc, ◌+◌}
use Rattle.dp_pattern.specs.Patterns.{Pattern, discard, bind, literal, group, Fields, no_fields, then_field}

abbrev mutual
  pub measure : Pattern → ℕ
  measure discard = 0
  measure (bind p) = suc (measure p)
  measure (literal u) = 0
  measure (group g fs) = suc (measure_fields fs)

  pub measure_fields : Fields → ℕ
  measure_fields no_fields = 0
  measure_fields (then_field k p fs) = suc (measure p + measure_fields fs)
