-- Numbers among the bare tokens: integers in decimal, and the decimal doubles that the text form refuses.
use Rattle.std.specs.Prelude.{ℕ, ◌+◌, ◌-◌, ◌*◌, ◌^◌, ℤ, pos, neg_ℤ, Bool, true, false, ◌&&◌, ◌||◌, ◌==◌, nat_lt, not}
use Rattle.std.specs.Prelude.{List, [], ◌∷◌, if◌then◌else◌, Option, Some, None}
use Rattle.pv_lex.specs.Characters.{is_digit, after_digits}

abbrev pub is_empty : List ℕ → Bool
is_empty [] = true
is_empty (b ∷ bs) = false

abbrev pub begins_digit : List ℕ → Bool
begins_digit [] = false
begins_digit (b ∷ bs) = is_digit b

-- what follows an optional + or -
abbrev pub after_sign : List ℕ → List ℕ
after_sign [] = []
after_sign (b ∷ bs) = if (b == 43) || (b == 45) then bs else b ∷ bs

-- what follows an optional fraction: a point and digits
abbrev pub after_fraction : List ℕ → List ℕ
after_fraction [] = []
after_fraction (b ∷ bs) = if (b == 46) && begins_digit bs then after_digits bs else b ∷ bs

-- what follows an optional exponent: e or E, an optional sign, and digits
abbrev pub after_exponent : List ℕ → List ℕ
after_exponent [] = []
after_exponent (b ∷ bs) =
    if ((b == 101) || (b == 69)) && begins_digit (after_sign bs) then after_digits (after_sign bs) else b ∷ bs

-- an optional sign and digits
abbrev pub is_integer_text : List ℕ → Bool
is_integer_text s = begins_digit (after_sign s) && is_empty (after_digits (after_sign s))

-- that with a fraction, an exponent or both
abbrev pub is_decimal_double : List ℕ → Bool
is_decimal_double s =
    begins_digit (after_sign s) && not (is_empty (after_digits (after_sign s)))
    && is_empty (after_exponent (after_fraction (after_digits (after_sign s))))

-- n, and then these digits
abbrev pub digits_value : ℕ → List ℕ → ℕ
digits_value n [] = n
digits_value n (b ∷ bs) = digits_value (10 * n + (b - 48)) bs

abbrev pub is_negative : List ℕ → Bool
is_negative [] = false
is_negative (b ∷ bs) = b == 45

abbrev pub magnitude : List ℕ → ℕ
magnitude s = digits_value 0 (after_sign s)

unfoldable pub integer_value : List ℕ → ℤ
integer_value s = if is_negative s then neg_ℤ (pos (magnitude s)) else pos (magnitude s)

-- outside the 128 bits of two's complement
unfoldable pub is_wide : List ℕ → Bool
is_wide s = if is_negative s then nat_lt (2 ^ 127) (magnitude s) else not (nat_lt (magnitude s) (2 ^ 127))

-- the integer of 128 bits that a text stands for
unfoldable pub integer_of : List ℕ → Option ℤ
integer_of s = if is_integer_text s && not (is_wide s) then Some (integer_value s) else None
