-- Two's complement in as few bytes as will do, of at most 16.
use Rattle.std.proofs.Common.{◌≡◌, ℕ, nat_lt, eqb, zero, suc, ◌+◌, ◌-◌, ◌*◌, ◌%◌, ◌^◌, ◌<◌, ◌≤◌, Bool, true, false}
use Rattle.std.proofs.Common.{cond, not, ◌&&◌, ◌||◌, List, [], ◌∷◌, ◌++◌, length, replicate, ℤ, refl, sym, ap, ◌∙◌}
use Rattle.std.proofs.Common.{subst, length-append, lit<, append_assoc, Result, Ok, Err, arith}
use Rattle.std.proofs.lemmas.Bool.{eqb-true}
use Rattle.std.specs.Int.{w128, bytes_high_first, to_be_bytes, from_be_bytes, cast_unsigned, cast_signed}
use Rattle.std.proofs.Math.Nat.{mod-eq_of_lt}
use Rattle.std.proofs.Math.Facts.{sfits_to_z}
use Rattle.std.specs.Int.RustNames.{FitsSigned}
use Rattle.std.proofs.lemmas.Int.{ints, of_z-to_z, to_z-of_z}
use Rattle.std.proofs.lemmas.List.{length-replicate}
use Rattle.std.proofs.lemmas.Bool.{le-ltb, ltb-false}
use Rattle.pv_binary.specs.Numbers.{repeats_sign, minimal, int_bytes, varint, counted}
use Rattle.pv_read.specs.Results.{◌>>=◌}
use Rattle.pv_binary.specs.Reading.{sign, pad, int_value, is_minimal, varint_at, split_at, int_at}
use Rattle.pv_binary.specs.declared.faults.BinKind.{BinKind}
use Rattle.pv_binary.specs.declared.faults.BinKind.TheVariants.{TooWide, LongInteger}
use Rattle.pv_read.specs.Lemmas.Binds.{parts, bind_ok}
use Rattle.pv_binary.proofs.Varints.{IsBytes, varint_sound, varint_again, split_again, split_sound, counted_from}
use Rattle.pv_binary.proofs.Bytes.{worth, worth_small, bytes_of_worth, worth_of_bytes, length-high}

-- ---- what a sign byte does

repeats_own : (c : ℕ) → repeats_sign (cond (nat_lt c 128) 0 255) c ≡ true
repeats_own c = by (nat_lt c 128) refl
  where
    by : (t : Bool) → nat_lt c 128 ≡ t → repeats_sign (cond t 0 255) c ≡ true
    by true e = rw e
    by false e = rw e

pub sign_own : (c : ℕ) (s : List ℕ) → sign (cond (nat_lt c 128) 0 255 ∷ s) ≡ cond (nat_lt c 128) 0 255
sign_own c s = by (nat_lt c 128)
  where
    by : (t : Bool) → cond {A = ℕ} (nat_lt (cond {A = ℕ} t 0 255) 128) 0 255 ≡ cond {A = ℕ} t 0 255
    by true = refl
    by false = refl

-- one more sign byte before a text that begins with a byte
drops_one : (c : ℕ) (s : List ℕ) → minimal (sign (c ∷ s) ∷ c ∷ s) ≡ minimal (c ∷ s)
drops_one c s = rw (repeats_own c)

drops_all : (j c : ℕ) (s : List ℕ) → minimal (replicate j (sign (c ∷ s)) ++ c ∷ s) ≡ minimal (c ∷ s)
drops_all zero c s = refl
drops_all (suc zero) c s = drops_one c s
drops_all (suc (suc j)) c s =
    let g = sign (c ∷ s) in
    let t = replicate j g ++ c ∷ s in
    ap (λ h. minimal (h ∷ g ∷ t)) (sym (sign_own c t)) ∙ drops_one g t ∙ drops_all (suc j) c s

zeros : (j : ℕ) → minimal (replicate j 0 ++ []) ≡ []
zeros zero = refl
zeros (suc zero) = refl
zeros (suc (suc j)) = zeros (suc j)

minimal_pad : (j : ℕ) (s : List ℕ) → minimal (replicate j (sign s) ++ s) ≡ minimal s
minimal_pad j [] = zeros j
minimal_pad j (c ∷ s) = drops_all j c s

-- ---- what is dropped is the sign

sign_of_repeat : (b c : ℕ) (s : List ℕ) → repeats_sign b c ≡ true → b ≡ sign (c ∷ s)
sign_of_repeat b c s e = by (nat_lt c 128) refl e
  where
    by : (t : Bool) → nat_lt c 128 ≡ t → ((eqb b 0 && t) || (eqb b 255 && not t)) ≡ true → b ≡ cond t 0 255
    by true d h = eqb-true b 0 (left (eqb b 0) (eqb b 255) h)
      where
        left : (p q : Bool) → ((p && true) || (q && false)) ≡ true → p ≡ true
        left true q h = refl
        left false true h = cc
        left false false h = cc
    by false d h = eqb-true b 255 (right (eqb b 0) (eqb b 255) h)
      where
        right : (p q : Bool) → ((p && false) || (q && true)) ≡ true → q ≡ true
        right true true h = refl
        right false true h = refl
        right true false h = cc
        right false false h = cc

sign_minimal_more : (b c : ℕ) (s : List ℕ) (t : Bool) → repeats_sign b c ≡ t → sign (minimal (c ∷ s)) ≡ sign (c ∷ s)
    → sign (cond t (minimal (c ∷ s)) (b ∷ c ∷ s)) ≡ sign (b ∷ c ∷ s)
sign_minimal_more b c s true e h = h ∙ sym (ap (λ d. sign (d ∷ c ∷ s)) (sign_of_repeat b c s e) ∙ sign_own c (c ∷ s))
sign_minimal_more b c s false e h = refl

sign_minimal_one : (b : ℕ) (t : Bool) → eqb b 0 ≡ t → sign (cond t [] (b ∷ [])) ≡ sign (b ∷ [])
sign_minimal_one b true e = rw (eqb-true b 0 e)
sign_minimal_one b false e = refl

sign_minimal : (s : List ℕ) → sign (minimal s) ≡ sign s
sign_minimal [] = refl
sign_minimal (b ∷ []) = sign_minimal_one b (eqb b 0) refl
sign_minimal (b ∷ c ∷ s) = sign_minimal_more b c s (repeats_sign b c) refl (sign_minimal (c ∷ s))

-- the text is its minimal form behind some sign bytes
abbrev Padded : List ℕ → List ℕ → Type 0
Padded s m = (j : ℕ) × (j + length m ≡ length s) × (replicate j (sign s) ++ m ≡ s)

padded_more : (b c : ℕ) (s : List ℕ) (t : Bool) → repeats_sign b c ≡ t → Padded (c ∷ s) (minimal (c ∷ s))
    → Padded (b ∷ c ∷ s) (cond t (minimal (c ∷ s)) (b ∷ c ∷ s))
padded_more b c s true e h =
    let g = sign_of_repeat b c s e in
    let k : sign (b ∷ c ∷ s) ≡ sign (c ∷ s) = ap (λ d. sign (d ∷ c ∷ s)) g ∙ sign_own c (c ∷ s) in
    (suc h.0, omega (arith, h.1), (λ i. (k ∙ sym g) i ∷ (ap (λ d. replicate h.0 d ++ minimal (c ∷ s)) k ∙ h.2) i))
padded_more b c s false e h = (0, omega arith, refl)

padded_one : (b : ℕ) (t : Bool) → eqb b 0 ≡ t → Padded (b ∷ []) (cond t [] (b ∷ []))
padded_one b true e = (1, omega arith, rw (eqb-true b 0 e))
padded_one b false e = (0, omega arith, refl)

padded : (s : List ℕ) → Padded s (minimal s)
padded [] = (0, omega arith, refl)
padded (b ∷ []) = padded_one b (eqb b 0) refl
padded (b ∷ c ∷ s) = padded_more b c s (repeats_sign b c) refl (padded (c ∷ s))

pad_minimal : (s : List ℕ) → length s ≡ 16 → pad (minimal s) ≡ s
pad_minimal s l =
    let h = padded s in
    let j : 16 - length (minimal s) ≡ h.0 = omega (arith, h.1) in
    (λ i. replicate (j i) (sign_minimal s i) ++ minimal s) ∙ h.2

-- what `from_be_bytes` reads at 16 bytes
pub worth_16 : (b0 b1 b2 b3 b4 b5 b6 b7 b8 b9 b10 b11 b12 b13 b14 b15 : ℕ)
    → from_be_bytes w128 (b0 ∷ b1 ∷ b2 ∷ b3 ∷ b4 ∷ b5 ∷ b6 ∷ b7 ∷ b8 ∷ b9 ∷ b10 ∷ b11 ∷ b12 ∷ b13 ∷ b14 ∷ b15 ∷ [])
    ≡ worth (b0 ∷ b1 ∷ b2 ∷ b3 ∷ b4 ∷ b5 ∷ b6 ∷ b7 ∷ b8 ∷ b9 ∷ b10 ∷ b11 ∷ b12 ∷ b13 ∷ b14 ∷ b15 ∷ [])
worth_16 b0 b1 b2 b3 b4 b5 b6 b7 b8 b9 b10 b11 b12 b13 b14 b15 = omega arith

pub from_bytes : (bs : List ℕ) → length bs ≡ 16 → from_be_bytes w128 bs ≡ worth bs
from_bytes ([]) l = absurd (omega arith)
from_bytes (b0 ∷ []) l = absurd (omega arith)
from_bytes (b0 ∷ b1 ∷ []) l = absurd (omega arith)
from_bytes (b0 ∷ b1 ∷ b2 ∷ []) l = absurd (omega arith)
from_bytes (b0 ∷ b1 ∷ b2 ∷ b3 ∷ []) l = absurd (omega arith)
from_bytes (b0 ∷ b1 ∷ b2 ∷ b3 ∷ b4 ∷ []) l = absurd (omega arith)
from_bytes (b0 ∷ b1 ∷ b2 ∷ b3 ∷ b4 ∷ b5 ∷ []) l = absurd (omega arith)
from_bytes (b0 ∷ b1 ∷ b2 ∷ b3 ∷ b4 ∷ b5 ∷ b6 ∷ []) l = absurd (omega arith)
from_bytes (b0 ∷ b1 ∷ b2 ∷ b3 ∷ b4 ∷ b5 ∷ b6 ∷ b7 ∷ []) l = absurd (omega arith)
from_bytes (b0 ∷ b1 ∷ b2 ∷ b3 ∷ b4 ∷ b5 ∷ b6 ∷ b7 ∷ b8 ∷ []) l = absurd (omega arith)
from_bytes (b0 ∷ b1 ∷ b2 ∷ b3 ∷ b4 ∷ b5 ∷ b6 ∷ b7 ∷ b8 ∷ b9 ∷ []) l = absurd (omega arith)
from_bytes (b0 ∷ b1 ∷ b2 ∷ b3 ∷ b4 ∷ b5 ∷ b6 ∷ b7 ∷ b8 ∷ b9 ∷ b10 ∷ []) l = absurd (omega arith)
from_bytes (b0 ∷ b1 ∷ b2 ∷ b3 ∷ b4 ∷ b5 ∷ b6 ∷ b7 ∷ b8 ∷ b9 ∷ b10 ∷ b11 ∷ []) l = absurd (omega arith)
from_bytes (b0 ∷ b1 ∷ b2 ∷ b3 ∷ b4 ∷ b5 ∷ b6 ∷ b7 ∷ b8 ∷ b9 ∷ b10 ∷ b11 ∷ b12 ∷ []) l = absurd (omega arith)
from_bytes (b0 ∷ b1 ∷ b2 ∷ b3 ∷ b4 ∷ b5 ∷ b6 ∷ b7 ∷ b8 ∷ b9 ∷ b10 ∷ b11 ∷ b12 ∷ b13 ∷ []) l = absurd (omega arith)
from_bytes (b0 ∷ b1 ∷ b2 ∷ b3 ∷ b4 ∷ b5 ∷ b6 ∷ b7 ∷ b8 ∷ b9 ∷ b10 ∷ b11 ∷ b12 ∷ b13 ∷ b14 ∷ []) l = absurd (omega arith)
from_bytes (b0 ∷ b1 ∷ b2 ∷ b3 ∷ b4 ∷ b5 ∷ b6 ∷ b7 ∷ b8 ∷ b9 ∷ b10 ∷ b11 ∷ b12 ∷ b13 ∷ b14 ∷ b15 ∷ []) l =
    worth_16 b0 b1 b2 b3 b4 b5 b6 b7 b8 b9 b10 b11 b12 b13 b14 b15
from_bytes (b0 ∷ b1 ∷ b2 ∷ b3 ∷ b4 ∷ b5 ∷ b6 ∷ b7 ∷ b8 ∷ b9 ∷ b10 ∷ b11 ∷ b12 ∷ b13 ∷ b14 ∷ b15 ∷ c ∷ bs) l =
    absurd (omega arith)

-- ---- there and back

bytes_replicate : (j b : ℕ) (s : List ℕ) → b < 256 → IsBytes s → IsBytes (replicate j b ++ s)
bytes_replicate zero b s l h = h
bytes_replicate (suc j) b s l h = (l, bytes_replicate j b s l h)

sign_small : (s : List ℕ) → sign s < 256
sign_small [] = lit< tt
sign_small (c ∷ s) = by (nat_lt c 128)
  where
    by : (t : Bool) → cond {A = ℕ} t 0 255 < 256
    by true = lit< tt
    by false = lit< tt

pub length_pad : (s : List ℕ) → length s ≤ 16 → length (pad s) ≡ 16
length_pad s l = omega (
  arith,
  length-append (replicate (16 - length s) (sign s)) s,
  length-replicate (16 - length s) (sign s),
)

pub int_bytes_value : (s : List ℕ) → IsBytes s → length s ≤ 16 → int_bytes (int_value s) ≡ minimal s
unfolding int_bytes int_value
int_bytes_value s all l =
    let bytes = bytes_replicate (16 - length s) (sign s) s (sign_small s) all in
    let small : worth (pad s) < 256 ^ 16 =
    subst (λ k. worth (pad s) < 256 ^ k) (length_pad s l) (worth_small (pad s) bytes) in
    let be : to_be_bytes w128 (worth (pad s)) ≡ pad s =
    subst (λ k. bytes_high_first k (worth (pad s)) ≡ pad s) (length_pad s l) (bytes_of_worth (pad s) bytes) in
    ap (λ n. minimal (to_be_bytes w128 (cast_unsigned w128 (cast_signed w128 n)))) (from_bytes (pad s) (length_pad s l))
    ∙ ap (λ n. minimal (to_be_bytes w128 n)) (of_z-to_z w128 (worth (pad s)) small) ∙ ap minimal be
    ∙ minimal_pad (16 - length s) s

pub int_bytes_again : (s : List ℕ) → IsBytes s → length s ≤ 16 → minimal s ≡ s → int_bytes (int_value s) ≡ s
int_bytes_again s all l e = int_bytes_value s all l ∙ e

below_all : (z : ℤ) → FitsSigned w128 z → cast_unsigned w128 z < 256 ^ 16
below_all z f = omega (arith, ints)

keeps : (n m : ℕ) → n < m → n % m ≡ n
keeps n m l = mod-eq_of_lt l

pub int_value_again : (z : ℤ) → FitsSigned w128 z → int_value (int_bytes z) ≡ z
unfolding int_bytes int_value
int_value_again z f =
    let n = cast_unsigned w128 z in
    let bs = to_be_bytes w128 n in
    ap (cast_signed w128) (ap (from_be_bytes w128) (pad_minimal bs (length-high 16 n))
    ∙ from_bytes bs (length-high 16 n) ∙ worth_of_bytes 16 n ∙ keeps n (256 ^ 16) (below_all z f))
    ∙ to_z-of_z w128 z f

-- ---- the test

off : (t : Bool) → not t ≡ true → t ≡ false
off true e = cc
off false e = refl

test_more : (b c : ℕ) (s : List ℕ) (t : Bool) → repeats_sign b c ≡ t → is_minimal (minimal (c ∷ s)) ≡ true
    → is_minimal (cond t (minimal (c ∷ s)) (b ∷ c ∷ s)) ≡ true
test_more b c s true e h = h
test_more b c s false e h = rw e

fits_all : (n : ℕ) → n < 256 ^ 16 → FitsSigned w128 (cast_signed w128 n)
fits_all n l = sfits_to_z (record { fits = l })

pub minimal_from_test : (s : List ℕ) → is_minimal s ≡ true → minimal s ≡ s
minimal_from_test [] e = refl
minimal_from_test (b ∷ []) e = rw (off (eqb b 0) e)
minimal_from_test (b ∷ c ∷ s) e = rw (off (repeats_sign b c) e)

pub test_of_minimal : (s : List ℕ) → is_minimal (minimal s) ≡ true
test_of_minimal [] = refl
test_of_minimal (b ∷ []) = by (eqb b 0) refl
  where
    by : (t : Bool) → eqb b 0 ≡ t → is_minimal (cond t [] (b ∷ [])) ≡ true
    by true e = refl
    by false e = rw e
test_of_minimal (b ∷ c ∷ s) = test_more b c s (repeats_sign b c) refl (test_of_minimal (c ∷ s))

pub short : (s : List ℕ) → length (minimal s) ≤ length s
short s = let h = padded s in omega (arith, h.1)

pub int_bytes_short : (z : ℤ) → length (int_bytes z) ≤ 16
unfolding int_bytes
int_bytes_short z = let bs = to_be_bytes w128 (cast_unsigned w128 z) in
    omega (arith, short bs, length-high 16 (cast_unsigned w128 z))

pub int_bytes_minimal : (z : ℤ) → is_minimal (int_bytes z) ≡ true
unfolding int_bytes
int_bytes_minimal z = test_of_minimal (to_be_bytes w128 (cast_unsigned w128 z))

pub int_value_fits : (s : List ℕ) → IsBytes s → length s ≤ 16 → FitsSigned w128 (int_value s)
unfolding int_value
int_value_fits s all l =
    let bytes = bytes_replicate (16 - length s) (sign s) s (sign_small s) all in
    let small : worth (pad s) < 256 ^ 16 =
    subst (λ k. worth (pad s) < 256 ^ k) (length_pad s l) (worth_small (pad s) bytes) in
    subst (λ n. FitsSigned w128 (cast_signed w128 n)) (sym (from_bytes (pad s) (length_pad s l)))
    (fits_all (worth (pad s)) small)

-- ---- an integer behind its count

-- what is known of an integer that was read
abbrev IsInt : List ℕ → ℤ → List ℕ → Type 0
IsInt bytes z r = (bytes ≡ counted (int_bytes z) ++ r) × IsBytes r × FitsSigned w128 z

int_from : (bytes s r : List ℕ) (t : Bool) (z : ℤ) (q : List ℕ) → is_minimal s ≡ t → bytes ≡ counted s ++ r → IsBytes r
    → IsBytes s → length s ≤ 16
    → cond {A = Result (ℤ × List ℕ) BinKind} t (Ok (int_value s, r)) (Err LongInteger) ≡ Ok (z, q) → IsInt bytes z q
int_from bytes s r false z q d is all some l e = cc
int_from bytes s r true z q d is all some l e =
    let pq = parts (int_value s) z r q e in
    let p : int_value s ≡ z = pq.0 in
    let h : r ≡ q = pq.1 in
    let m : int_bytes z ≡ s = ap int_bytes (sym p) ∙ int_bytes_again s some l (minimal_from_test s d) in
    (rw (m, ← h) is, rw (← h) all, rw (← p) (int_value_fits s some l))

int_wide : (bytes : List ℕ) (n : ℕ) (more : List ℕ) (t : Bool) (z : ℤ) (q : List ℕ) → nat_lt 16 n ≡ t
    → (bytes ≡ varint n ++ more) × IsBytes more × (n < 2 * 128 ^ 9)
    → cond {A = Result (ℤ × List ℕ) BinKind} t (Err TooWide)
    (split_at n more >>= λ s.
    cond {A = Result (ℤ × List ℕ) BinKind} (is_minimal s.0) (Ok (int_value s.0, s.1)) (Err LongInteger)) ≡ Ok (z, q)
    → IsInt bytes z q
int_wide bytes n more true z q d w e = cc
int_wide bytes n more false z q d w e =
    let l : n ≤ 16 = ltb-false 16 n d in
    let x = bind_ok (split_at n more) _ _ e in
    let h = counted_from bytes n more x.0.0 x.0.1 w x.1 in
    let k : length x.0.0 ≤ 16 = subst (λ j. j ≤ 16) (sym (split_sound n more x.0.0 x.0.1 x.1).0) l in
    int_from bytes x.0.0 x.0.1 (is_minimal x.0.0) z q refl h.0 h.1 h.2 k x.2

pub int_sound : (bytes : List ℕ) (z : ℤ) (r : List ℕ) → IsBytes bytes → int_at bytes ≡ Ok (z, r)
    → (bytes ≡ counted (int_bytes z) ++ r) × IsBytes r × FitsSigned w128 z
unfolding int_at
int_sound bytes z r all e =
    let x = bind_ok (varint_at 9 bytes) _ _ e in
    int_wide bytes x.0.0 x.0.1 (nat_lt 16 x.0.0) z r refl (varint_sound 9 bytes x.0.0 x.0.1 all x.1) x.2

pub int_again : (z : ℤ) (r : List ℕ) → FitsSigned w128 z → int_at (counted (int_bytes z) ++ r) ≡ Ok (z, r)
unfolding int_at
int_again z r f =
    let s = int_bytes z in
    let l = int_bytes_short z in
    let a : varint_at 9 (varint (length s) ++ (s ++ r)) ≡ Ok (length s, s ++ r) =
    varint_again 8 (length s) (s ++ r) (omega (arith, l)) in
    rw (
      append_assoc (varint (length s)) s r,
      a,
      le-ltb 16 (length s) l,
      split_again s r,
      int_bytes_minimal z,
      int_value_again z f,
    )
