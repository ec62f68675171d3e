-- Bytes below 128 are text.
use Rattle.std.proofs.Common.{◌≡◌, ℕ, ◌+◌, ◌*◌, ◌/◌, ◌%◌, ◌<◌, Bool, true, nat_lt, List, [], ◌∷◌, IsUtf8, refl, subst}
use Rattle.std.proofs.Common.{arith, ltb-true}
use Rattle.std.proofs.lemmas.Bool.{and_parts, and_from, agree_below_at}
use Rattle.std.proofs.lemmas.Str.{IsUtf8-append, IsUtf8-nil, IsUtf8-encode, encode_ascii}
use lib.Utf8.{low_scalar}
use Rattle.pv_lex.specs.Characters.{all_of}
use Rattle.pv_print.specs.Hex.{hex_letter, hex_pairs}
use Rattle.pv_print.specs.Base64.{base64_digit, in_base64}

abbrev pub is_ascii : ℕ → Bool
is_ascii b = nat_lt b 128

pub utf8_then : (b : ℕ) (bs : List ℕ) → b < 128 → IsUtf8 bs → IsUtf8 (b ∷ bs)
utf8_then b bs small u =
    IsUtf8-append (b ∷ []) bs (subst IsUtf8 (encode_ascii b small) (IsUtf8-encode b (low_scalar b (omega arith)))) u

pub utf8_ascii : (bs : List ℕ) → all_of is_ascii bs ≡ true → IsUtf8 bs
utf8_ascii [] e = IsUtf8-nil
utf8_ascii (b ∷ bs) e =
    let h = and_parts _ _ e in
    utf8_then b bs (ltb-true _ _ h.0) (utf8_ascii bs h.1)

hex_ascii : (d : ℕ) → d < 16 → is_ascii (hex_letter d) ≡ true
hex_ascii d h = agree_below_at (λ n. is_ascii (hex_letter n)) (λ n. true) 16 d refl h

-- each is a byte
abbrev pub AreBytes : List ℕ → Type 0
AreBytes [] = Unit {0}
AreBytes (b ∷ bs) = (b < 256) × AreBytes bs

pub hex_pairs_ascii : (bs : List ℕ) → AreBytes bs → all_of is_ascii (hex_pairs bs) ≡ true
unfolding hex_pairs
hex_pairs_ascii [] h = refl
hex_pairs_ascii (b ∷ bs) h =
    and_from _ _ (hex_ascii (b / 16) (omega arith)) (and_from _ _ (hex_ascii (b % 16) (omega arith))
    (hex_pairs_ascii bs h.1))

base64_ascii : (d : ℕ) → d < 64 → is_ascii (base64_digit d) ≡ true
base64_ascii d h = agree_below_at (λ n. is_ascii (base64_digit n)) (λ n. true) 64 d refl h

pub in_base64_ascii : (bs : List ℕ) → AreBytes bs → all_of is_ascii (in_base64 bs) ≡ true
in_base64_ascii [] h = refl
in_base64_ascii (a ∷ []) h =
    and_from _ _ (base64_ascii (a / 4) (omega arith)) (and_from _ _ (base64_ascii (a % 4 * 16) (omega arith)) refl)
in_base64_ascii (a ∷ b ∷ []) h =
    and_from _ _ (base64_ascii (a / 4) (omega arith)) (and_from _ _ (base64_ascii (a % 4 * 16 + b / 16) (omega arith))
    (and_from _ _ (base64_ascii (b % 16 * 4) (omega arith)) refl))
in_base64_ascii (a ∷ b ∷ c ∷ bs) h =
    and_from _ _ (base64_ascii (a / 4) (omega arith)) (and_from _ _ (base64_ascii (a % 4 * 16 + b / 16) (omega arith))
    (and_from _ _ (base64_ascii (b % 16 * 4 + c / 64) (omega arith)) (and_from _ _ (base64_ascii (c % 64) (omega arith))
    (in_base64_ascii bs h.1.1.1))))
