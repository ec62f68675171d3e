-- What gets smaller from a pattern to each pattern inside it: measures of walks over patterns.
use Rattle.std.specs.Prelude.{ℕ, suc, ◌+◌}
use Rattle.ps_schema.specs.Patterns.{PlainPattern, any_value, of_kind, literal, reference, embedded_as, record_with}
use Rattle.ps_schema.specs.Patterns.{record_of_both, tuple, tuple_with_rest, set_of_all, dictionary_of_all}
use Rattle.ps_schema.specs.Patterns.{dictionary_with, one_of, all_of, PlainPatterns, no_patterns, then_pattern}
use Rattle.ps_schema.specs.Patterns.{PlainFields, no_fields, then_field}

abbrev mutual
  pub measure : PlainPattern → ℕ
  measure any_value = 0
  measure (of_kind k) = 0
  measure (literal v) = 0
  measure (reference a) = 0
  measure (embedded_as p) = suc (measure p)
  measure (record_with l ps) = suc (measure_all ps)
  measure (record_of_both p q) = suc (measure p + measure q)
  measure (tuple ps) = suc (measure_all ps)
  measure (tuple_with_rest ps q) = suc (measure_all ps + measure q)
  measure (set_of_all p) = suc (measure p)
  measure (dictionary_of_all p q) = suc (measure p + measure q)
  measure (dictionary_with fs) = suc (measure_fields fs)
  measure (one_of ps) = suc (measure_all ps)
  measure (all_of ps) = suc (measure_all ps)

  pub measure_all : PlainPatterns → ℕ
  measure_all no_patterns = 0
  measure_all (then_pattern p ps) = suc (measure p + measure_all ps)

  pub measure_fields : PlainFields → ℕ
  measure_fields no_fields = 0
  measure_fields (then_field k p fs) = suc (measure p + measure_fields fs)
