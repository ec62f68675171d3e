-- Base64 in the standard alphabet with padding: RFC 4648, section 4.
use Rattle.std.specs.Prelude.{ℕ, ◌+◌, ◌-◌, ◌*◌, ◌/◌, ◌%◌, nat_lt, ◌==◌, List, [], ◌∷◌, if◌then◌else◌}

-- the digit of a number below 64: A to Z, a to z, 0 to 9, + and /
abbrev pub base64_digit : ℕ → ℕ
base64_digit d =
    if nat_lt d 26 then d + 65
    else (if nat_lt d 52 then d + 71
    else (if nat_lt d 62 then d - 4
    else (if d == 62 then 43 else 47)))

-- three bytes at a time in four digits of six bits; behind the last one or two bytes stand zero bits and padding
abbrev pub in_base64 : List ℕ → List ℕ
in_base64 [] = []
in_base64 (a ∷ []) = base64_digit (a / 4) ∷ base64_digit (a % 4 * 16) ∷ 61 ∷ 61 ∷ []
in_base64 (a ∷ b ∷ []) = base64_digit (a / 4) ∷ base64_digit (a % 4 * 16 + b / 16) ∷ base64_digit (b % 16 * 4) ∷ 61 ∷ []
in_base64 (a ∷ b ∷ c ∷ bs) =
    base64_digit (a / 4) ∷ base64_digit (a % 4 * 16 + b / 16) ∷ base64_digit (b % 16 * 4 + c / 64) ∷ base64_digit
    (c % 64) ∷ in_base64 bs
