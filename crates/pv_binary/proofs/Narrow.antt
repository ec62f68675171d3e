-- An integer that fits in fewer bytes than 16: what is written of it is written of those.
use Rattle.std.proofs.Common.{◌≡◌, ℕ, nat_lt, eqb, zero, suc, ◌+◌, ◌-◌, ◌%◌, ◌^◌, ◌≤◌, lit<, lit≤, Bool, true}
use Rattle.std.proofs.Common.{false, cond, List, [], ◌∷◌, ◌++◌, length, length-append, replicate, ℤ, pos, refl, sym, ap}
use Rattle.std.proofs.Common.{◌∙◌, arith}
use Rattle.std.proofs.lemmas.Bool.{ltb-true, ltb-false, ne_eqb}
use Rattle.std.proofs.Math.Facts.{sfits_widen}
use Rattle.std.proofs.lemmas.Int.{ints, to_z-of_z}
use Rattle.std.proofs.lemmas.List.{length-replicate}
use Rattle.std.proofs.Math.Nat.{pow-succ', mod-lt}
use Rattle.std.specs.Int.{w8, w32, w64, w128, byte_at, bytes_high_first, to_be_bytes, cast_unsigned, cast_signed}
use Rattle.std.specs.Int.RustNames.{FitsSigned}
use Rattle.pv_binary.specs.Numbers.{minimal, int_bytes, counted}
use Rattle.pv_binary.specs.Reading.{sign, pad, int_value}
use Rattle.pv_binary.proofs.Varints.{IsBytes, varint_last}
use Rattle.pv_binary.proofs.Bytes.{worth, byte_is, worth_of_bytes}
use Rattle.pv_binary.proofs.Ints.{from_bytes, length_pad, int_bytes_value}

are_bytes : (k n : ℕ) → IsBytes (bytes_high_first k n)
are_bytes zero n = tt
are_bytes (suc k) n = (rw (byte_is k n) (mod-lt _ {m = 256} (lit< tt)), are_bytes k n)

worth_zeros : (j : ℕ) (s : List ℕ) → worth (replicate j 0 ++ s) ≡ worth s
worth_zeros zero s = refl
worth_zeros (suc j) s = omega (arith, worth_zeros j s)

worth_ones : (j m : ℕ) (s : List ℕ) → j + length s ≡ m
    → worth (replicate j 255 ++ s) + 256 ^ length s ≡ 256 ^ m + worth s
worth_ones zero m s e =
    let q : length s ≡ m = omega (arith, e) in
    turn (worth s) (256 ^ length s) ∙ ap (λ n. 256 ^ n + worth s) q
  where
    turn : (a b : ℕ) → a + b ≡ b + a
    turn a b = omega arith
worth_ones (suc j) zero s e = absurd (omega (arith, e))
worth_ones (suc j) (suc m) s e =
    let l : length (replicate j 255 ++ s) ≡ m =
    omega (arith, e, length-append (replicate j 255) s, length-replicate {A = ℕ} j 255) in
    omega (arith, worth_ones j m s (omega (arith, e)), ap (λ n. 256 ^ n) l, pow-succ' 256 m)

-- what the bytes are worth behind their sign
by_sign : (s : List ℕ) (t : Bool) → length s ≤ 16 → sign s ≡ cond t 0 255
    → cond t (worth (pad s) ≡ worth s) (worth (pad s) + 256 ^ length s ≡ 256 ^ 16 + worth s)
by_sign s true l e = rw e (worth_zeros (16 - length s) s)
by_sign s false l e = rw e (worth_ones (16 - length s) 16 s (omega (arith, l)))

value_is : (s : List ℕ) → length s ≤ 16 → int_value s ≡ cast_signed w128 (worth (pad s))
unfolding int_value
value_is s l = ap (cast_signed w128) (from_bytes (pad s) (length_pad s l))

pub value_8 : (z : ℤ) → FitsSigned w8 z → int_value (to_be_bytes w8 (cast_unsigned w8 z)) ≡ z
value_8 z f =
    value_is (to_be_bytes w8 (cast_unsigned w8 z)) (lit≤ tt)
    ∙ ap (cast_signed w128)
    (by (nat_lt (byte_at 0 (cast_unsigned w8 z)) 128) refl (worth_of_bytes 1 (cast_unsigned w8 z)))
    ∙ to_z-of_z w128 z (sfits_widen tt f)
  where
    by : (t : Bool) → nat_lt (byte_at 0 (cast_unsigned w8 z)) 128 ≡ t → worth (to_be_bytes w8 (cast_unsigned w8 z))
        ≡ (cast_unsigned w8 z) % 256 ^ 1
        → worth (pad (to_be_bytes w8 (cast_unsigned w8 z))) ≡ cast_unsigned w128 z
    by true e h =
        let p : worth (pad (to_be_bytes w8 (cast_unsigned w8 z))) ≡ worth (to_be_bytes w8 (cast_unsigned w8 z)) =
        by_sign (to_be_bytes w8 (cast_unsigned w8 z)) true (lit≤ tt) (ap (λ t. cond {A = ℕ} t 0 255) e) in
        omega (arith, ints, p, h, ltb-true (byte_at 0 (cast_unsigned w8 z)) 128 e)
    by false e h =
        let p : worth (pad (to_be_bytes w8 (cast_unsigned w8 z))) + 256 ^ 1
        ≡ 256 ^ 16 + worth (to_be_bytes w8 (cast_unsigned w8 z)) =
        by_sign (to_be_bytes w8 (cast_unsigned w8 z)) false (lit≤ tt) (ap (λ t. cond {A = ℕ} t 0 255) e) in
        omega (arith, ints, p, h, ltb-false (byte_at 0 (cast_unsigned w8 z)) 128 e)

pub narrow_8 : (z : ℤ) → FitsSigned w8 z → int_bytes z ≡ minimal (to_be_bytes w8 (cast_unsigned w8 z))
narrow_8 z f = ap int_bytes (sym (value_8 z f))
    ∙ int_bytes_value (to_be_bytes w8 (cast_unsigned w8 z)) (are_bytes 1 (cast_unsigned w8 z)) (lit≤ tt)

pub value_32 : (z : ℤ) → FitsSigned w32 z → int_value (to_be_bytes w32 (cast_unsigned w32 z)) ≡ z
value_32 z f =
    value_is (to_be_bytes w32 (cast_unsigned w32 z)) (lit≤ tt)
    ∙ ap (cast_signed w128)
    (by (nat_lt (byte_at 3 (cast_unsigned w32 z)) 128) refl (worth_of_bytes 4 (cast_unsigned w32 z)))
    ∙ to_z-of_z w128 z (sfits_widen tt f)
  where
    by : (t : Bool) → nat_lt (byte_at 3 (cast_unsigned w32 z)) 128 ≡ t → worth (to_be_bytes w32 (cast_unsigned w32 z))
        ≡ (cast_unsigned w32 z) % 256 ^ 4
        → worth (pad (to_be_bytes w32 (cast_unsigned w32 z))) ≡ cast_unsigned w128 z
    by true e h =
        let p : worth (pad (to_be_bytes w32 (cast_unsigned w32 z))) ≡ worth (to_be_bytes w32 (cast_unsigned w32 z)) =
        by_sign (to_be_bytes w32 (cast_unsigned w32 z)) true (lit≤ tt) (ap (λ t. cond {A = ℕ} t 0 255) e) in
        omega (arith, ints, p, h, ltb-true (byte_at 3 (cast_unsigned w32 z)) 128 e)
    by false e h =
        let p : worth (pad (to_be_bytes w32 (cast_unsigned w32 z))) + 256 ^ 4
        ≡ 256 ^ 16 + worth (to_be_bytes w32 (cast_unsigned w32 z)) =
        by_sign (to_be_bytes w32 (cast_unsigned w32 z)) false (lit≤ tt) (ap (λ t. cond {A = ℕ} t 0 255) e) in
        omega (arith, ints, p, h, ltb-false (byte_at 3 (cast_unsigned w32 z)) 128 e)

pub narrow_32 : (z : ℤ) → FitsSigned w32 z → int_bytes z ≡ minimal (to_be_bytes w32 (cast_unsigned w32 z))
narrow_32 z f = ap int_bytes (sym (value_32 z f))
    ∙ int_bytes_value (to_be_bytes w32 (cast_unsigned w32 z)) (are_bytes 4 (cast_unsigned w32 z)) (lit≤ tt)

value_64 : (z : ℤ) → FitsSigned w64 z → int_value (to_be_bytes w64 (cast_unsigned w64 z)) ≡ z
value_64 z f =
    value_is (to_be_bytes w64 (cast_unsigned w64 z)) (lit≤ tt)
    ∙ ap (cast_signed w128)
    (by (nat_lt (byte_at 7 (cast_unsigned w64 z)) 128) refl (worth_of_bytes 8 (cast_unsigned w64 z)))
    ∙ to_z-of_z w128 z (sfits_widen tt f)
  where
    by : (t : Bool) → nat_lt (byte_at 7 (cast_unsigned w64 z)) 128 ≡ t → worth (to_be_bytes w64 (cast_unsigned w64 z))
        ≡ (cast_unsigned w64 z) % 256 ^ 8
        → worth (pad (to_be_bytes w64 (cast_unsigned w64 z))) ≡ cast_unsigned w128 z
    by true e h =
        let p : worth (pad (to_be_bytes w64 (cast_unsigned w64 z))) ≡ worth (to_be_bytes w64 (cast_unsigned w64 z)) =
        by_sign (to_be_bytes w64 (cast_unsigned w64 z)) true (lit≤ tt) (ap (λ t. cond {A = ℕ} t 0 255) e) in
        omega (arith, ints, p, h, ltb-true (byte_at 7 (cast_unsigned w64 z)) 128 e)
    by false e h =
        let p : worth (pad (to_be_bytes w64 (cast_unsigned w64 z))) + 256 ^ 8
        ≡ 256 ^ 16 + worth (to_be_bytes w64 (cast_unsigned w64 z)) =
        by_sign (to_be_bytes w64 (cast_unsigned w64 z)) false (lit≤ tt) (ap (λ t. cond {A = ℕ} t 0 255) e) in
        omega (arith, ints, p, h, ltb-false (byte_at 7 (cast_unsigned w64 z)) 128 e)

pub narrow_64 : (z : ℤ) → FitsSigned w64 z → int_bytes z ≡ minimal (to_be_bytes w64 (cast_unsigned w64 z))
narrow_64 z f = ap int_bytes (sym (value_64 z f))
    ∙ int_bytes_value (to_be_bytes w64 (cast_unsigned w64 z)) (are_bytes 8 (cast_unsigned w64 z)) (lit≤ tt)

-- ---- the shortest spellings

pub counted_zero : (z : ℤ) → z ≡ pos 0 → counted (int_bytes z) ≡ 0 ∷ []
unfolding int_bytes
counted_zero z e =
    ap (λ y. counted (minimal (to_be_bytes w128 (cast_unsigned w128 y)))) e
    ∙ ap (λ bs. bs ++ []) (varint_last 0 (lit< tt))

pub counted_one : (z : ℤ) → FitsSigned w8 z → (z ≡ pos 0 → ⊥)
    → counted (int_bytes z) ≡ 1 ∷ cast_unsigned w8 z ∷ []
counted_one z f some =
    let b = byte_at 0 (cast_unsigned w8 z) in
    let e : eqb b 0 ≡ false = ne_eqb b 0 (λ h. some (none h)) in
    ap counted (narrow_8 z f ∙ ap (λ t. cond {A = List ℕ} t [] (b ∷ [])) e)
    ∙ ap (λ bs. bs ++ b ∷ []) (varint_last 1 (lit< tt)) ∙ ap (λ m. 1 ∷ m ∷ []) own
  where
    own : byte_at 0 (cast_unsigned w8 z) ≡ cast_unsigned w8 z
    own = omega (arith, ints)

    none : byte_at 0 (cast_unsigned w8 z) ≡ 0 → z ≡ pos 0
    none h = omega (arith, ints, h)
