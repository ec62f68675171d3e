-- The one compact text of a value, by the Preserves text syntax. Sets and dictionaries stand in the order that they
-- have.
use Rattle.std.specs.Prelude.{ℕ, true, false, List, [], ◌∷◌, ◌++◌, if◌then◌else◌}
use Rattle.std.specs.Fmt.{signed_decimal}
use Rattle.std.specs.Int.{w64, to_be_bytes}
use Rattle.pv_value.specs.Plain.{Plain, boolean, double, integer, string, byte_string, symbol, record_of, sequence}
use Rattle.pv_value.specs.Plain.{set_of, dictionary, embedded, Plains, no_more, then_more, PlainPairs, no_pairs}
use Rattle.pv_value.specs.Plain.{then_pair}
use Rattle.pv_print.specs.Hex.{hex_pairs}
use Rattle.pv_print.specs.Base64.{in_base64}
use Rattle.pv_print.specs.Escaped.{quoted}
use Rattle.pv_print.specs.Bare.{stands_bare}

-- #t #f, #xd"..", -1, "..", #[..], |..| or bare, <l f g>, [a b], #{a b}, {k: v l: w}, #:v
abbrev mutual
  pub printed : Plain → List ℕ
  printed (boolean false) = 35 ∷ 102 ∷ []
  printed (boolean true) = 35 ∷ 116 ∷ []
  printed (double n) = 35 ∷ 120 ∷ 100 ∷ 34 ∷ (hex_pairs (to_be_bytes w64 n) ++ 34 ∷ [])
  printed (integer z) = signed_decimal z
  printed (string s) = quoted 34 s
  printed (byte_string s) = 35 ∷ 91 ∷ (in_base64 s ++ 93 ∷ [])
  printed (symbol s) = if stands_bare s then s else quoted 124 s
  printed (record_of l fs) = 60 ∷ (printed l ++ (printed_behind fs ++ 62 ∷ []))
  printed (sequence xs) = 91 ∷ (printed_all xs ++ 93 ∷ [])
  printed (set_of xs) = 35 ∷ 123 ∷ (printed_all xs ++ 125 ∷ [])
  printed (dictionary ps) = 123 ∷ (printed_entries ps ++ 125 ∷ [])
  printed (embedded x) = 35 ∷ 58 ∷ printed x

  -- with a space between two
  pub printed_all : Plains → List ℕ
  printed_all no_more = []
  printed_all (then_more x xs) = printed x ++ printed_behind xs

  -- each behind a space
  pub printed_behind : Plains → List ℕ
  printed_behind no_more = []
  printed_behind (then_more x xs) = 32 ∷ (printed x ++ printed_behind xs)

  -- a key, a colon, a space and a value; with a space between two
  pub printed_entries : PlainPairs → List ℕ
  printed_entries no_pairs = []
  printed_entries (then_pair k v ps) = (printed k ++ 58 ∷ 32 ∷ printed v) ++ entries_behind ps

  -- each behind a space
  pub entries_behind : PlainPairs → List ℕ
  entries_behind no_pairs = []
  entries_behind (then_pair k v ps) = 32 ∷ ((printed k ++ 58 ∷ 32 ∷ printed v) ++ entries_behind ps)
