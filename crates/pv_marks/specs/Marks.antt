-- The mark of a value: a number of 64 bits by which values are told apart at a glance. Equal values have one mark, and
-- others seldom do.
use Rattle.std.specs.Prelude.{◌≡◌, ℕ, ◌+◌, ◌*◌, ◌%◌, ◌^◌, true, false, List, [], ◌∷◌, unsigned_abs}
use Rattle.pv_value.specs.Plain.{Plain, boolean, double, integer, string, byte_string, symbol, record_of, sequence}
use Rattle.pv_value.specs.Plain.{set_of, dictionary, embedded, Plains, no_more, then_more, PlainPairs, no_pairs}
use Rattle.pv_value.specs.Plain.{then_pair}

-- a number comes into a mark
unfoldable pub mixed : ℕ → ℕ → ℕ
mixed h n = (h * 6364136223846793005 + n) % 2 ^ 64

-- and each of a list
abbrev pub all_mixed : ℕ → List ℕ → ℕ
all_mixed h [] = h
all_mixed h (n ∷ ns) = all_mixed (mixed h n) ns

-- a value comes into a mark: the number of its kind, and then what is in it, from the left, with an end behind what
-- stands in a list
abbrev mutual
  pub marked : ℕ → Plain → ℕ
  marked h (boolean false) = mixed h 1
  marked h (boolean true) = mixed h 2
  marked h (double n) = mixed (mixed h 3) n
  marked h (integer z) = mixed (mixed h 4) (unsigned_abs z)
  marked h (string s) = all_mixed (mixed h 5) s
  marked h (byte_string s) = all_mixed (mixed h 6) s
  marked h (symbol s) = all_mixed (mixed h 7) s
  marked h (record_of l fs) = all_marked (marked (mixed h 8) l) fs
  marked h (sequence xs) = all_marked (mixed h 9) xs
  marked h (set_of xs) = all_marked (mixed h 10) xs
  marked h (dictionary ps) = pairs_marked (mixed h 11) ps
  marked h (embedded x) = marked (mixed h 12) x

  pub all_marked : ℕ → Plains → ℕ
  all_marked h no_more = mixed h 13
  all_marked h (then_more x xs) = all_marked (marked h x) xs

  pub pairs_marked : ℕ → PlainPairs → ℕ
  pairs_marked h no_pairs = mixed h 13
  pairs_marked h (then_pair k v ps) = pairs_marked (marked (marked h k) v) ps

unfoldable pub mark : Plain → ℕ
mark = marked 0

abbrev pub IsMarkOf : ℕ → Plain → Type 0
IsMarkOf m x = m ≡ mark x
