-- Which bytes spell a value: the grammar of the Preserves binary specification, by cases on the kind of the value.
-- The elements of a set and the entries of a dictionary stand in any order, and there is no bound on nesting.
use Rattle.std.specs.Prelude.{◌≡◌, ℕ, true, false, List, [], ◌∷◌, ◌++◌, length, ◌<◌, ◌^◌}
use Rattle.std.specs.Str.{IsUtf8}
use Rattle.std.specs.Int.{w64, w128, to_be_bytes}
use Rattle.std.specs.Int.RustNames.{FitsSigned}
use Rattle.std.specs.List.{concat}
use Rattle.std.specs.List.Sorted.{IsPermutation}
use Rattle.pv_value.specs.Plain.{Plain, boolean, double, integer, string, byte_string, symbol, record_of, sequence}
use Rattle.pv_value.specs.Plain.{set_of, dictionary, embedded, Plains, no_more, then_more, listed, PlainPairs, no_pairs}
use Rattle.pv_value.specs.Plain.{then_pair, paired}
use Rattle.pv_value.specs.WellFormed.{Ascend, KeysAscend}
use Rattle.pv_binary.specs.Numbers.{counted, int_bytes}

abbrev mutual
  pub Spells : List ℕ → Plain → Type 0
  Spells b (boolean false) = b ≡ 0x80 ∷ []
  Spells b (boolean true) = b ≡ 0x81 ∷ []
  Spells b (double n) = (n < 2 ^ 64) × (b ≡ 0x87 ∷ 8 ∷ to_be_bytes w64 n)
  Spells b (integer z) = FitsSigned w128 z × (b ≡ 0xb0 ∷ counted (int_bytes z))
  Spells b (string s) = IsUtf8 s × (length s < 2 ^ 64) × (b ≡ 0xb1 ∷ counted s)
  Spells b (byte_string s) = (length s < 2 ^ 64) × (b ≡ 0xb2 ∷ counted s)
  Spells b (symbol s) = IsUtf8 s × (length s < 2 ^ 64) × (b ≡ 0xb3 ∷ counted s)
  Spells b (record_of l fs) =
      (c : List ℕ) × (ps : List (List ℕ)) × Spells c l × Pieces ps fs × (b ≡ 0xb4 ∷ (c ++ (concat ps ++ 0x84 ∷ [])))
  Spells b (sequence xs) = (ps : List (List ℕ)) × Pieces ps xs × (b ≡ 0xb5 ∷ (concat ps ++ 0x84 ∷ []))
  Spells b (set_of xs) = (ps : List (List ℕ)) × (qs : List (List ℕ)) × Pieces ps xs × IsPermutation ps qs
      × Ascend (listed xs) × (b ≡ 0xb6 ∷ (concat qs ++ 0x84 ∷ []))
  Spells b (dictionary es) =
      (ps : List (List ℕ)) × (qs : List (List ℕ)) × PairPieces ps es × IsPermutation ps qs × KeysAscend (paired es)
      × (b ≡ 0xb7 ∷ (concat qs ++ 0x84 ∷ []))
  Spells b (embedded x) = (c : List ℕ) × Spells c x × (b ≡ 0x86 ∷ c)

  -- a piece for each value
  pub Pieces : List (List ℕ) → Plains → Type 0
  Pieces [] no_more = Unit {0}
  Pieces [] (then_more x xs) = ⊥
  Pieces (p ∷ ps) no_more = ⊥
  Pieces (p ∷ ps) (then_more x xs) = Spells p x × Pieces ps xs

  -- a piece for each entry: its key, and then its value
  pub PairPieces : List (List ℕ) → PlainPairs → Type 0
  PairPieces [] no_pairs = Unit {0}
  PairPieces [] (then_pair k v es) = ⊥
  PairPieces (p ∷ ps) no_pairs = ⊥
  PairPieces (p ∷ ps) (then_pair k v es) =
      ((c : List ℕ) × (d : List ℕ) × Spells c k × Spells d v × (p ≡ c ++ d)) × PairPieces ps es

-- the spelling of an entry
abbrev pub SpellsEntry : List ℕ → Plain → Plain → Type 0
SpellsEntry p k v = (c : List ℕ) × (d : List ℕ) × Spells c k × Spells d v × (p ≡ c ++ d)
