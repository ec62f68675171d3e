-- Characters of the text form, by their bytes.
-- Preserves text syntax, "White space" and "Comments". Each byte of a character from 80 hexadecimal up is one from 128.
use Rattle.std.specs.Prelude.{ℕ, ◌-◌, Bool, true, false, ◌&&◌, ◌||◌, ◌==◌, nat_le, not, List, [], ◌∷◌, if◌then◌else◌}
use Rattle.std.specs.Prelude.{Option, Some, None}

abbrev pub all_of : (ℕ → Bool) → List ℕ → Bool
all_of test [] = true
all_of test (b ∷ bs) = test b && all_of test bs

abbrev pub is_between : ℕ → ℕ → ℕ → Bool
is_between low high b = nat_le low b && nat_le b high

-- CR or LF
abbrev pub is_line_end : ℕ → Bool
is_line_end b = (b == 13) || (b == 10)

-- space, tab, CR or LF
abbrev pub is_space : ℕ → Bool
is_space b = (b == 32) || (b == 9) || is_line_end b

abbrev pub is_digit : ℕ → Bool
is_digit b = is_between 48 57 b

abbrev pub is_letter : ℕ → Bool
is_letter b = is_between 65 90 b || is_between 97 122 b

-- ~ ! $ % ^ & * ? _ = + - / .
abbrev pub is_bare_sign : ℕ → Bool
is_bare_sign b =
    (b == 126) || (b == 33) || (b == 36) || (b == 37) || (b == 94) || (b == 38) || (b == 42)
    || (b == 63) || (b == 95) || (b == 61) || (b == 43) || (b == 45) || (b == 47) || (b == 46)

-- part of a bare token
abbrev pub is_bare : ℕ → Bool
is_bare b = is_letter b || is_digit b || is_bare_sign b || nat_le 128 b

-- a hexadecimal digit in either case
abbrev pub hex_digit : ℕ → Option ℕ
hex_digit b =
    if is_digit b then Some (b - 48)
    else (if is_between 97 102 b then Some (b - 87)
    else (if is_between 65 70 b then Some (b - 55) else None))

-- whether a # begins a comment, by what follows it
abbrev pub begins_comment : List ℕ → Bool
begins_comment [] = false
begins_comment (b ∷ bs) = is_space b || (b == 33)

-- the longest front of characters that pass a test, and what follows it
abbrev pub run : (ℕ → Bool) → List ℕ → List ℕ × List ℕ
run test [] = ([], [])
run test (b ∷ bs) = if test b then (b ∷ (run test bs).0, (run test bs).1) else ([], b ∷ bs)

-- no character that passes stands first
abbrev pub ends_run : (ℕ → Bool) → List ℕ → Bool
ends_run test [] = true
ends_run test (b ∷ bs) = not (test b)

abbrev pub ends_bare : List ℕ → Bool
ends_bare bytes = ends_run is_bare bytes

abbrev pub after_digits : List ℕ → List ℕ
after_digits [] = []
after_digits (b ∷ bs) = if is_digit b then after_digits bs else b ∷ bs
