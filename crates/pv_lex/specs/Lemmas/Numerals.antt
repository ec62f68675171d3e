-- Bare tokens that are numbers: which are integers of 128 bits, and that none is empty.
use Rattle.std.proofs.Common.{◌≡◌, ◌≢◌, ℕ, Bool, true, false, cond, ◌&&◌, not, ℤ, List, [], ◌∷◌, Some, None, refl}
use Rattle.pv_lex.specs.Characters.{after_digits}
use Rattle.pv_lex.specs.Numbers.{is_empty, begins_digit, after_sign, after_fraction, after_exponent, is_integer_text}
use Rattle.pv_lex.specs.Numbers.{is_decimal_double, is_wide, integer_value, integer_of}

pub integer_parts : (s : List ℕ) (z : ℤ) → integer_of s ≡ Some z → (is_integer_text s ≡ true) × (is_wide s ≡ false)
unfolding integer_of
integer_parts s z e = by (is_integer_text s) (is_wide s) e
  where
    by : (t w : Bool) → cond (t && not w) (Some (integer_value s)) None ≡ Some z → (t ≡ true) × (w ≡ false)
    by true true e = cc
    by true false e = (refl, refl)
    by false w e = cc

pub wide_is : (s : List ℕ) → is_integer_text s ≡ true → integer_of s ≡ None → is_wide s ≡ true
unfolding integer_of
wide_is s i e = by (is_integer_text s) (is_wide s) i e
  where
    by : (t w : Bool) → t ≡ true → cond (t && not w) (Some (integer_value s)) None ≡ None → w ≡ true
    by true true i e = refl
    by true false i e = cc
    by false w i e = cc

pub wide_none : (s : List ℕ) → is_wide s ≡ true → integer_of s ≡ None
unfolding integer_of
wide_none s e = rw e (by (is_integer_text s))
  where
    by : (t : Bool) → cond (t && false) (Some (integer_value s)) None ≡ None
    by true = refl
    by false = refl

pub no_integer : (s : List ℕ) → is_decimal_double s ≡ true → is_integer_text s ≡ false
no_integer s e =
    by (begins_digit (after_sign s)) (is_empty (after_digits (after_sign s)))
    (is_empty (after_exponent (after_fraction (after_digits (after_sign s))))) e
  where
    by : (p q r : Bool) → (p && not q && r) ≡ true → (p && q) ≡ false
    by true true r e = cc
    by true false r e = refl
    by false q r e = refl

pub integer_some : (s : List ℕ) → is_integer_text s ≡ true → s ≢ []
integer_some [] e n = cc
integer_some (b ∷ bs) e n = cc

pub decimal_some : (s : List ℕ) → is_decimal_double s ≡ true → s ≢ []
decimal_some [] e n = cc
decimal_some (b ∷ bs) e n = cc
