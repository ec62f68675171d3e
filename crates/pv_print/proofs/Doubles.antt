-- The sixteen digits of a double stand for its bits.
use Rattle.std.proofs.Common.{◌≡◌, ℕ, ◌+◌, ◌*◌, ◌/◌, ◌%◌, ◌^◌, ◌<◌, true, false, eqb, List, [], ◌∷◌, Some, None, refl}
use Rattle.std.proofs.Common.{ap, ◌∙◌, arith}
use Rattle.std.specs.Prelude.{option_map, unwrap_or}
use Rattle.std.specs.Int.{w64, to_be_bytes}
use Rattle.std.proofs.lemmas.Bool.{agree_below_at}
use Rattle.std.proofs.lemmas.Nat.{from_be_bytes-to_be_bytes_8}
use Rattle.pv_lex.specs.Characters.{is_space, hex_digit}
use Rattle.pv_lex.specs.ByteTexts.{hex_in, hex_bytes, double_bits}
use Rattle.pv_print.specs.Hex.{hex_letter, hex_pairs}
use Rattle.pv_print.proofs.Ascii.{AreBytes}
use Rattle.pv_print.proofs.Base64.{some_at}

no_space : (d : ℕ) → d < 16 → is_space (hex_letter d) ≡ false
no_space d h = agree_below_at (λ n. is_space (hex_letter n)) (λ n. false) 16 d refl h

letter_back : (d : ℕ) → d < 16 → hex_digit (hex_letter d) ≡ Some d
letter_back d h =
    some_at (hex_digit (hex_letter d)) d 16 (agree_below_at (λ n. eqb (unwrap_or (hex_digit (hex_letter n)) 16) n)
    (λ n. true) 16 d refl h) h

pair_back : (h l : ℕ) (bs : List ℕ) → h < 16 → l < 16 → hex_in None (hex_letter h ∷ hex_letter l ∷ bs) ≡ option_map
    (λ s. (16 * h + l) ∷ s) (hex_in None bs)
pair_back h l bs a b = rw (no_space h a, letter_back h a, no_space l b, letter_back l b)

pub hex_back : (s : List ℕ) → AreBytes s → hex_bytes (hex_pairs s) ≡ Some s
unfolding hex_pairs
hex_back [] h = refl
hex_back (b ∷ bs) h =
    let byte : 16 * (b / 16) + b % 16 ≡ b = omega arith in
    pair_back (b / 16) (b % 16) (hex_pairs bs) (omega arith) (omega arith)
    ∙ ap (λ o. option_map (λ s. (16 * (b / 16) + b % 16) ∷ s) o) (hex_back bs h.1) ∙ ap (λ x. Some (x ∷ bs)) byte

pub double_bytes : (n : ℕ) → n < 2 ^ 64 → AreBytes (to_be_bytes w64 n)
double_bytes n h = (
  omega arith,
  (
    omega arith,
    (
      omega arith,
      (omega arith, (omega arith, (omega arith, (omega arith, (omega arith, tt))))),
    ),
  ),
)

pub double_back : (n : ℕ) → n < 2 ^ 64 → double_bits (hex_pairs (to_be_bytes w64 n)) ≡ Some n
unfolding double_bits
double_back n h =
    rw (hex_back (to_be_bytes w64 n) (double_bytes n h)) (ap (λ (x : ℕ). Some x) (from_be_bytes-to_be_bytes_8 n h))
