-- The written spelling of a value: its binary spelling with sets and dictionaries in ascending order.
-- Preserves binary specification; a set's elements and a dictionary's entries may stand in any order there.
use Rattle.std.specs.Prelude.{ℕ, true, false, List, [], ◌∷◌, ◌++◌}
use Rattle.std.specs.Int.{w64, to_be_bytes}
use Rattle.pv_value.specs.Plain.{Plain, boolean, double, integer, string, byte_string, symbol, record_of, sequence}
use Rattle.pv_value.specs.Plain.{set_of, dictionary, embedded, Plains, no_more, then_more, PlainPairs, no_pairs}
use Rattle.pv_value.specs.Plain.{then_pair}
use Rattle.pv_binary.specs.Numbers.{counted, int_bytes}

abbrev mutual
  pub written : Plain → List ℕ
  written (boolean false) = 0x80 ∷ []
  written (boolean true) = 0x81 ∷ []
  written (double n) = 0x87 ∷ 8 ∷ to_be_bytes w64 n
  written (integer z) = 0xb0 ∷ counted (int_bytes z)
  written (string s) = 0xb1 ∷ counted s
  written (byte_string s) = 0xb2 ∷ counted s
  written (symbol s) = 0xb3 ∷ counted s
  written (record_of l fs) = 0xb4 ∷ (written l ++ (written_all fs ++ 0x84 ∷ []))
  written (sequence xs) = 0xb5 ∷ (written_all xs ++ 0x84 ∷ [])
  written (set_of xs) = 0xb6 ∷ (written_all xs ++ 0x84 ∷ [])
  written (dictionary ps) = 0xb7 ∷ (written_pairs ps ++ 0x84 ∷ [])
  written (embedded x) = 0x86 ∷ written x

  pub written_all : Plains → List ℕ
  written_all no_more = []
  written_all (then_more x xs) = written x ++ written_all xs

  pub written_pairs : PlainPairs → List ℕ
  written_pairs no_pairs = []
  written_pairs (then_pair k v ps) = (written k ++ written v) ++ written_pairs ps
