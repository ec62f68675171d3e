-- Records whose label is a symbol, by the bytes of its word, and numbers.
use Rattle.std.specs.Prelude.{◌≡◌, ℕ, ◌^◌, pos, Bool, nat_lt, List, Option, Some, None, if◌then◌else◌}
use Rattle.std.specs.Str.{bytes_eq}
use Rattle.pv_value.specs.Plain.{Plain, integer, symbol, record_of, Plains, plains}

-- whether a symbol's text is this word
abbrev pub is_word : List ℕ → List ℕ → Bool
is_word s word = bytes_eq s word

-- the record with this word as its label
abbrev pub labelled : List ℕ → List Plain → Plain
labelled word fields = record_of (symbol word) (plains fields)

-- no record whose label is a symbol
abbrev pub HasNoWord : Plain → Type 0
HasNoWord v = (s : List ℕ) (fs : Plains) → v ≡ record_of (symbol s) fs → ⊥

abbrev pub number : ℕ → Plain
number n = integer (pos n)

-- the number that a value is, where it is below 2 ^ 63
abbrev pub number_in : Plain → Option ℕ
number_in (integer (pos n)) = if nat_lt n (2 ^ 63) then Some n else None
number_in v = None
