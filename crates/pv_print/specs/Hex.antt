-- Hexadecimal digits in lower case, two for each byte.
use Rattle.std.specs.Prelude.{ℕ, ◌+◌, ◌/◌, ◌%◌, nat_lt, List, [], ◌∷◌, if◌then◌else◌}

-- the digit of a number below 16: 0 to 9, a to f
abbrev pub hex_letter : ℕ → ℕ
hex_letter d = if nat_lt d 10 then d + 48 else d + 87

-- the two digits of each byte
unfoldable pub hex_pairs : List ℕ → List ℕ
hex_pairs [] = []
hex_pairs (b ∷ bs) = hex_letter (b / 16) ∷ hex_letter (b % 16) ∷ hex_pairs bs
