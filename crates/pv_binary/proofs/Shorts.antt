-- Integers in at most four bytes of two's complement, as numbers of 8 or of 32 bits.
use Rattle.std.proofs.Common.{◌≡◌, ℕ, zero, suc, ◌-◌, ◌^◌, ◌<◌, List, [], ◌∷◌, ◌++◌, length, replicate, sym, refl, ap}
use Rattle.std.proofs.Common.{◌∙◌, arith}
use Rattle.std.proofs.Math.Facts.{sfits_to_z}
use Rattle.std.proofs.lemmas.Int.{of_z-to_z}
use Rattle.std.specs.Int.{w8, w32, w128, to_be_bytes, from_be_bytes, cast_signed}
use Rattle.pv_binary.specs.Reading.{sign, pad, int_value}
use Rattle.pv_binary.proofs.Varints.{IsBytes}
use Rattle.pv_binary.proofs.Bytes.{worth, worth_small, bytes_of_worth}
use Rattle.pv_binary.proofs.Ints.{sign_own}
use Rattle.pv_binary.proofs.Narrow.{value_8, value_32}

-- ---- one byte more that repeats the sign

last_in : (j g : ℕ) (s : List ℕ) → replicate j g ++ g ∷ s ≡ g ∷ (replicate j g ++ s)
last_in zero g s = refl
last_in (suc j) g s = ap (λ t. g ∷ t) (last_in j g s)

pad_signed : (b : ℕ) (s : List ℕ) → suc (length s) < 16 → pad (sign (b ∷ s) ∷ b ∷ s) ≡ pad (b ∷ s)
pad_signed b s l =
    let g = sign (b ∷ s) in
    let k = 16 - length (g ∷ b ∷ s) in
    let e : suc k ≡ 16 - length (b ∷ s) = omega arith in
    ap (λ h. replicate k h ++ g ∷ b ∷ s) (sign_own b (b ∷ s)) ∙ last_in k g (b ∷ s)
    ∙ ap (λ j. replicate j g ++ b ∷ s) e

pub int_value_signed : (b : ℕ) (s : List ℕ) → suc (length s) < 16
    → int_value (sign (b ∷ s) ∷ b ∷ s) ≡ int_value (b ∷ s)
unfolding int_value
int_value_signed b s l = ap (λ (bs : List ℕ). cast_signed w128 (from_be_bytes w128 bs)) (pad_signed b s l)

-- two such bytes
pub int_value_signed_twice : (b : ℕ) (s : List ℕ) → suc (suc (length s)) < 16
    → int_value (sign (b ∷ s) ∷ sign (b ∷ s) ∷ b ∷ s) ≡ int_value (b ∷ s)
int_value_signed_twice b s l =
    let g = sign (b ∷ s) in
    ap (λ h. int_value (h ∷ g ∷ b ∷ s)) (sym (sign_own b (b ∷ s))) ∙ int_value_signed g (b ∷ s) l
    ∙ int_value_signed b s (omega arith)

-- ---- as a number of 8 or of 32 bits

worth_1 : (a : ℕ) → a ≡ worth (a ∷ [])
worth_1 a = omega arith

worth_4 : (a b c d : ℕ) → from_be_bytes w32 (a ∷ b ∷ c ∷ d ∷ []) ≡ worth (a ∷ b ∷ c ∷ d ∷ [])
worth_4 a b c d = omega arith

pub int_value_one : (a : ℕ) → a < 256 → cast_signed w8 a ≡ int_value (a ∷ [])
int_value_one a l =
    let s = a ∷ [] in
    let n = worth s in
    let small : n < 256 ^ 1 = worth_small s (l, tt) in
    let same : to_be_bytes w8 n ≡ s = bytes_of_worth s (l, tt) in
    ap (cast_signed w8) (worth_1 a) ∙ sym (value_8 (cast_signed w8 n) (sfits_to_z (record { fits = small })))
    ∙ ap int_value (ap (to_be_bytes w8) (of_z-to_z w8 n small) ∙ same)

pub int_value_four : (a b c d : ℕ) → a < 256 → b < 256 → c < 256 → d < 256
    → cast_signed w32 (from_be_bytes w32 (a ∷ b ∷ c ∷ d ∷ [])) ≡ int_value (a ∷ b ∷ c ∷ d ∷ [])
int_value_four a b c d la lb lc ld =
    let s = a ∷ b ∷ c ∷ d ∷ [] in
    let all : IsBytes s = (la, (lb, (lc, (ld, tt)))) in
    let n = worth s in
    let small : n < 256 ^ 4 = worth_small s all in
    let same : to_be_bytes w32 n ≡ s = bytes_of_worth s all in
    ap (cast_signed w32) (worth_4 a b c d)
    ∙ sym (value_32 (cast_signed w32 n) (sfits_to_z (record { fits = small })))
    ∙ ap int_value (ap (to_be_bytes w32) (of_z-to_z w32 n small) ∙ same)
