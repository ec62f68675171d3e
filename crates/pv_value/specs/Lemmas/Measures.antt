-- What gets smaller from a value to each value inside it: measures of walks over values.
use Rattle.std.specs.Prelude.{ℕ, suc, ◌+◌}
use Rattle.pv_value.specs.Plain.{Plain, boolean, double, integer, string, byte_string, symbol, record_of, sequence}
use Rattle.pv_value.specs.Plain.{set_of, dictionary, embedded, Plains, no_more, then_more, PlainPairs, no_pairs}
use Rattle.pv_value.specs.Plain.{then_pair}

abbrev mutual
  pub measure : Plain → ℕ
  measure (boolean b) = 0
  measure (double n) = 0
  measure (integer z) = 0
  measure (string s) = 0
  measure (byte_string s) = 0
  measure (symbol s) = 0
  measure (record_of l fs) = suc (measure l + measure_all fs)
  measure (sequence xs) = suc (measure_all xs)
  measure (set_of xs) = suc (measure_all xs)
  measure (dictionary ps) = suc (measure_pairs ps)
  measure (embedded x) = suc (measure x)

  pub measure_all : Plains → ℕ
  measure_all no_more = 0
  measure_all (then_more x xs) = suc (measure x + measure_all xs)

  pub measure_pairs : PlainPairs → ℕ
  measure_pairs no_pairs = 0
  measure_pairs (then_pair k v ps) = suc (measure k + measure v + measure_pairs ps)
