-- Numbers in words.
use Rattle.std.specs.Prelude.{◌≡◌, ℕ, ◌≤◌, List, Option, Some, None, decimal, nat_le, ◌&&◌, if◌then◌else◌}
use Rattle.std.specs.Str.{bytes_eq}
use Rattle.std.specs.Str.Parse.{digits_value}

-- the number from `least` to `most` that the word is in decimal digits, without zeros that lead
abbrev pub number_within : ℕ → ℕ → List ℕ → Option ℕ
number_within least most w =
    let n = digits_value 10 w in
    if bytes_eq w (decimal n) && (nat_le least n && nat_le n most) then Some n else None

-- the same in a relation
abbrev pub IsNumberWithin : ℕ → ℕ → List ℕ → ℕ → Type 0
IsNumberWithin least most w n = (least ≤ n) × (n ≤ most) × (w ≡ decimal n)
