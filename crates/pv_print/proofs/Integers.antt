-- An integer's digits stand for the integer, and are bare.
use Rattle.std.proofs.Common.{◌≡◌, ℕ, suc, ◌+◌, ◌-◌, ◌*◌, ◌/◌, ◌%◌, ◌<◌, ◌≤◌, ◌^◌, Bool, true, false, ◌&&◌, ◌||◌}
use Rattle.std.proofs.Common.{nat_lt, ℤ, pos, negsuc, List, [], ◌∷◌, ◌++◌, Some, refl, ap, ◌∙◌, arith}
use Rattle.std.specs.Fmt.{decimal, signed_decimal}
use Rattle.std.specs.Int.{w128}
use Rattle.std.specs.Int.RustNames.{FitsSigned}
use Rattle.std.proofs.lemmas.Bool.{and_parts, and_from, le-leb, lt-ltb, le-ltb, ne_eqb, leb-true}
use Rattle.std.proofs.lemmas.Fmt.{decimal_by_steps_wide}
use Rattle.pv_lex.specs.Characters.{all_of, is_digit, is_bare, after_digits}
use Rattle.pv_lex.specs.Numbers.{is_empty, begins_digit, after_sign, digits_value, is_negative, magnitude}
use Rattle.pv_lex.specs.Numbers.{integer_value, is_wide, integer_of}

-- digits, one at least, that stand for a number
pub record AreDigits (n : ℕ) (ds : List ℕ) : Type 0 where
  pub digits : all_of is_digit ds ≡ true
  pub begin : begins_digit ds ≡ true
  pub value : digits_value 0 ds ≡ n

digit_is : (d : ℕ) → d < 10 → is_digit (48 + d) ≡ true
digit_is d h = and_from _ _ (le-leb 48 (48 + d) (omega arith)) (le-leb (48 + d) 57 (omega arith))

all-append : (test : ℕ → Bool) (s : List ℕ) (b : ℕ) → all_of test s ≡ true → test b ≡ true
    → all_of test (s ++ b ∷ []) ≡ true
all-append test [] b h e = and_from _ _ e refl
all-append test (c ∷ cs) b h e =
    let p = and_parts (test c) (all_of test cs) h in
    and_from _ _ p.0 (all-append test cs b p.1 e)

begins-append : (s : List ℕ) (b : ℕ) → begins_digit s ≡ true → begins_digit (s ++ b ∷ []) ≡ true
begins-append [] b e = cc
begins-append (c ∷ cs) b e = e

value-append : (n : ℕ) (s : List ℕ) (b : ℕ) → digits_value n (s ++ b ∷ []) ≡ 10 * digits_value n s + (b - 48)
value-append n [] b = refl
value-append n (c ∷ cs) b = value-append (10 * n + (c - 48)) cs b

one_digit : (n : ℕ) → n < 10 → AreDigits n ((48 + n) ∷ [])
one_digit n h = record { digits = and_from _ _ (digit_is n h) refl; begin = digit_is n h; value = omega arith }

one_more : (n : ℕ) (ds : List ℕ) → 10 ≤ n → AreDigits (n / 10) ds → AreDigits n (ds ++ ((48 + n % 10) ∷ []))
one_more n ds h a = record {
  digits = all-append is_digit ds (48 + n % 10) a.digits (digit_is (n % 10) (omega arith));
  begin = begins-append ds (48 + n % 10) a.begin;
  value = omega (arith, value-append 0 ds (48 + n % 10), a.value);
}

pub decimal_digits : (n : ℕ) → n < 10 ^ 64 → AreDigits n (decimal n)
decimal_digits n h = decimal_by_steps_wide AreDigits one_digit one_more n h

-- ---- digits as a token

after_digits_all : (s : List ℕ) → all_of is_digit s ≡ true → after_digits s ≡ []
after_digits_all [] e = refl
after_digits_all (b ∷ bs) e =
    let h = and_parts (is_digit b) (all_of is_digit bs) e in
    rw h.0 (after_digits_all bs h.1)

digit_within : (b : ℕ) → is_digit b ≡ true → (48 ≤ b) × (b ≤ 57)
digit_within b e =
    let h = and_parts _ _ e in
    (leb-true _ _ h.0, leb-true _ _ h.1)

unsigned : (s : List ℕ) → begins_digit s ≡ true → (after_sign s ≡ s) × (is_negative s ≡ false)
unsigned [] e = cc
unsigned (b ∷ bs) e =
    let h = digit_within b e in
    (rw (ne_eqb b 43 (λ x. omega arith), ne_eqb b 45 (λ x. omega arith)), ne_eqb b 45 (λ x. omega arith))

bare_digits : (s : List ℕ) → all_of is_digit s ≡ true → all_of is_bare s ≡ true
bare_digits [] e = refl
bare_digits (b ∷ bs) e =
    let h = and_parts (is_digit b) (all_of is_digit bs) e in
    and_from _ _ (bare (b) h.0) (bare_digits bs h.1)
  where
    or_second : (x y z : Bool) → y ≡ true → (x || y || z) ≡ true
    or_second true y z e = refl
    or_second false true z e = refl
    or_second false false z e = cc

    or_first : (x y : Bool) → x ≡ true → (x || y) ≡ true
    or_first true y e = refl
    or_first false y e = cc

    bare : (c : ℕ) → is_digit c ≡ true → is_bare c ≡ true
    bare c e = rw e (or_first _ _ (or_second _ true _ refl))

-- ---- integers

integer_text : (s : List ℕ) → begins_digit s ≡ true → all_of is_digit s ≡ true
    → (begins_digit s && is_empty (after_digits s)) ≡ true
integer_text s b d = rw (b, after_digits_all s d)

pub integer_bare : (z : ℤ) → FitsSigned w128 z → all_of is_bare (signed_decimal z) ≡ true
integer_bare (pos n) h = bare_digits (decimal n) (decimal_digits n (omega arith)).digits
integer_bare (negsuc n) h = bare_digits (decimal (suc n)) (decimal_digits (suc n) (omega arith)).digits

pub integer_back : (z : ℤ) → FitsSigned w128 z → integer_of (signed_decimal z) ≡ Some z
unfolding integer_of is_wide integer_value
integer_back (pos n) h =
    let a = decimal_digits n (omega arith) in
    let u = unsigned (decimal n) a.begin in
    let e : magnitude (decimal n) ≡ n = ap (λ s. digits_value 0 s) u.0 ∙ a.value in
    let small : nat_lt n (2 ^ 127) ≡ true = lt-ltb n (2 ^ 127) (omega arith) in
    rw (u.0, a.begin, after_digits_all (decimal n) a.digits, u.1, a.value, small)
integer_back (negsuc n) h =
    let a = decimal_digits (suc n) (omega arith) in
    let small : nat_lt (2 ^ 127) (suc n) ≡ false = le-ltb (2 ^ 127) (suc n) (omega arith) in
    rw (a.begin, after_digits_all (decimal (suc n)) a.digits, a.value, small)
