-- Whether an embedded value stands anywhere in a value.
use Rattle.std.specs.Prelude.{Bool, true, false, ◌||◌}
use Rattle.pv_value.specs.Plain.{Plain, record_of, sequence, set_of, dictionary, embedded, Plains, no_more, then_more}
use Rattle.pv_value.specs.Plain.{PlainPairs, no_pairs, then_pair}

abbrev mutual
  pub has_embedded : Plain → Bool
  has_embedded (embedded x) = true
  has_embedded (record_of l fs) = has_embedded l || any_embedded fs
  has_embedded (sequence xs) = any_embedded xs
  has_embedded (set_of xs) = any_embedded xs
  has_embedded (dictionary ps) = any_pair_embedded ps
  has_embedded v = false

  pub any_embedded : Plains → Bool
  any_embedded no_more = false
  any_embedded (then_more x xs) = has_embedded x || any_embedded xs

  pub any_pair_embedded : PlainPairs → Bool
  any_pair_embedded no_pairs = false
  any_pair_embedded (then_pair k v ps) = (has_embedded k || has_embedded v) || any_pair_embedded ps
