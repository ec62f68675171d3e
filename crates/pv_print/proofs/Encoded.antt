-- What the crates of hexadecimal and base64 write is what is printed.
use Rattle.std.proofs.Common.{◌≡◌, ℕ, suc, ◌+◌, ◌*◌, ◌/◌, ◌%◌, ◌<◌, true, eqb, List, [], ◌∷◌, length, slice_index, refl}
use Rattle.std.proofs.Common.{ap, arith}
use Rattle.std.proofs.lemmas.Bool.{agree_below_at, eqb-true}
use Rattle.hex.specs.Hex.{lower_digits, encode_with, encode_lower}
use Rattle.base64.specs.Rfc4648.{encode_symbols, padding_len}
use Rattle.base64.specs.Engines.{standard}
use Rattle.base64.specs.GeneralPurpose.{encode_of}
use Rattle.pv_print.specs.Hex.{hex_letter, hex_pairs}
use Rattle.pv_print.specs.Base64.{base64_digit, in_base64}

letter_is : (d : ℕ) → d < 16 → slice_index lower_digits d ≡ hex_letter d
letter_is d h =
    eqb-true _ _ (agree_below_at (λ n. eqb (slice_index lower_digits n) (hex_letter n)) (λ n. true) 16 d refl h)

pub hex_is : (s : List ℕ) → ((i : ℕ) → slice_index s i < 256) → encode_lower s ≡ hex_pairs s
unfolding hex_pairs encode_with
hex_is [] h = refl
hex_is (b ∷ bs) h =
    let byte : b < 256 = h 0 in
    let high = letter_is (b / 16) (omega arith) in
    let low = letter_is (b % 16) (omega arith) in
    let rest = hex_is bs (λ i. h (suc i)) in
    λ i. high i ∷ low i ∷ rest i

digit_is : (d : ℕ) → d < 64 → slice_index standard.encode_table d ≡ base64_digit d
digit_is d h =
    eqb-true _ _ (agree_below_at (λ n. eqb (slice_index standard.encode_table n) (base64_digit n))
    (λ n. true) 64 d refl h)

pub base64_is : (s : List ℕ) → ((i : ℕ) → slice_index s i < 256) → encode_of standard s ≡ in_base64 s
unfolding encode_symbols
base64_is [] h = refl
base64_is (a ∷ []) h =
    let first : a < 256 = h 0 in
    let x = digit_is (a / 4) (omega arith) in
    let y = digit_is (a % 4 * 16) (omega arith) in
    λ i. x i ∷ y i ∷ 61 ∷ 61 ∷ []
base64_is (a ∷ b ∷ []) h =
    let first : a < 256 = h 0 in
    let second : b < 256 = h 1 in
    let x = digit_is (a / 4) (omega arith) in
    let y = digit_is (a % 4 * 16 + b / 16) (omega arith) in
    let z = digit_is (b % 16 * 4) (omega arith) in
    λ i. x i ∷ y i ∷ z i ∷ 61 ∷ []
base64_is (a ∷ b ∷ c ∷ bs) h =
    let first : a < 256 = h 0 in
    let second : b < 256 = h 1 in
    let third : c < 256 = h 2 in
    let x = digit_is (a / 4) (omega arith) in
    let y = digit_is (a % 4 * 16 + b / 16) (omega arith) in
    let z = digit_is (b % 16 * 4 + c / 64) (omega arith) in
    let w = digit_is (c % 64) (omega arith) in
    let same : padding_len (suc (suc (suc (length bs)))) ≡ padding_len (length bs) = omega arith in
    let rest = base64_is bs (λ i. h (suc (suc (suc i)))) in
    rw (x, y, z, w, same) (ap (λ (r : List ℕ). base64_digit (a / 4) ∷ base64_digit (a % 4 * 16 + b / 16) ∷ base64_digit
    (b % 16 * 4 + c / 64) ∷ base64_digit (c % 64) ∷ r) rest)
