-- How many bytes an integer takes in two's complement without bytes that only repeat the sign.
use Rattle.std.proofs.Common.{◌≡◌, ℕ, zero, suc, ◌+◌, ◌-◌, ◌*◌, ◌/◌, ◌%◌, ◌^◌, ◌<◌, ◌≤◌, lit<, max, ℤ, pos, negsuc}
use Rattle.std.proofs.Common.{Bool, true, false, cond, nat_lt, eqb, List, [], ◌∷◌, map, length, refl, sym, ap, ◌∙◌}
use Rattle.std.proofs.Common.{arith}
use Rattle.std.specs.Int.{w128, byte_at, bytes_high_first}
use Rattle.std.specs.Int.RustNames.{FitsSigned}
use Rattle.std.proofs.Math.Nat.{pow-succ', div-one, div-eq_of_lt, div-add-mod, add-mul, mul_comm, mul_assoc}
use Rattle.std.proofs.Math.Nat.{div-lt_iff_lt-mul, le-div_iff_mul-le, mod-lt, suc-mul}
use Rattle.std.proofs.lemmas.Nat.{div-mul-add}
use Rattle.std.specs.List.{AllByRecursion}
use Rattle.std.proofs.lemmas.List.{length-map}
use Rattle.std.proofs.lemmas.Bool.{ne_eqb, ltb-true, ltb-false}
use Rattle.std.proofs.lemmas.Bool.Decides.{nat_tests}
use Rattle.pv_value.specs.Weight.{signed_size_in, signed_size, integer_size}
use Rattle.pv_value.specs.Lemmas.WeightLaws.{signed_size_small, signed_size_more}
use Rattle.pv_binary.specs.Numbers.{repeats_sign, minimal, int_bytes}

positive : (k : ℕ) → 0 < 256 ^ k
positive zero = lit< tt
positive (suc k) = rw (pow-succ' 256 k) (omega (arith, positive k))

byte_is : (k n : ℕ) → byte_at k n ≡ n / 256 ^ k % 256
byte_is zero n = ap (λ m. m % 256) (sym (div-one n))
byte_is (suc k) n = refl

-- ---- the size

-- of a number that needs more than j + 1 bytes, and no more than j + 2
signed_exact : (j n : ℕ) → 128 * 256 ^ j ≤ n → n < 128 * 256 ^ suc j → signed_size n ≡ suc (suc j)
signed_exact zero n h l = signed_size_more n (omega arith) ∙ ap suc (signed_size_small (n / 256) (omega arith))
signed_exact (suc j) n h l =
    let p = pow-succ' 256 j in
    let q = pow-succ' 256 (suc j) in
    signed_size_more n (omega (arith, p, positive j))
    ∙ ap suc (signed_exact j (n / 256) (omega (arith, p)) (omega (arith, p, q)))

-- ---- what is at least 0

-- the first two of several bytes: b is the higher
repeats_small : (b c : ℕ) → b ≡ 0 → c < 128 → repeats_sign b c ≡ true
repeats_small b c e h = grind (arith, nat_tests)

repeats_large : (b c : ℕ) → b < 128 → (b ≡ 0 → 128 ≤ c) → repeats_sign b c ≡ false
repeats_large b c h l = grind (arith, nat_tests)

size_short : (j n : ℕ) → n < 128 * 256 ^ j → repeats_sign (byte_at (suc j) n) (byte_at j n) ≡ true
size_short j n h =
    let p = positive j in
    let small : n / 256 ^ j < 128 = (div-lt_iff_lt-mul p).1 h in
    let none : n / 256 ^ suc j ≡ 0 = div-eq_of_lt (omega (arith, pow-succ' 256 j, h)) in
    repeats_small (byte_at (suc j) n) (byte_at j n) (ap (λ m. m % 256) none) (omega (arith, byte_is j n, small))

size_full : (j n : ℕ) → 128 * 256 ^ j ≤ n → n < 128 * 256 ^ suc j → repeats_sign (byte_at (suc j) n) (byte_at j n)
    ≡ false
size_full j n h l =
    let high : n / 256 ^ suc j < 128 = (div-lt_iff_lt-mul (positive (suc j))).1 l in
    repeats_large (byte_at (suc j) n) (byte_at j n) (omega (arith, byte_is (suc j) n, high))
    (λ e. below (omega (arith, byte_is (suc j) n, high, e)))
  where
    below : n / 256 ^ suc j ≡ 0 → 128 ≤ byte_at j n
    below e =
        let low : 128 ≤ n / 256 ^ j = (le-div_iff_mul-le (positive j)).1 h in
        let under : n < 1 * 256 ^ suc j = (div-lt_iff_lt-mul (positive (suc j))).0 (omega (arith, e)) in
        let top : n / 256 ^ j < 256 = (div-lt_iff_lt-mul (positive j)).1 (omega (arith, under, pow-succ' 256 j)) in
        omega (arith, byte_is j n, low, top)

length-high : (k n : ℕ) → length (bytes_high_first k n) ≡ k
length-high zero n = refl
length-high (suc k) n = ap suc (length-high k n)

length-positive : (k n : ℕ) → n < 128 * 256 ^ k → 0 < n → length (minimal (bytes_high_first (suc k) n)) ≡ signed_size n
length-positive zero n h l =
    let e : n % 256 ≡ n = omega arith in
    rw (e, ne_eqb n 0 (λ d. omega (arith, d)), signed_size_small n (omega arith))
length-positive (suc j) n h l = by (λ d. length-positive j n d l) (nat_lt n (128 * 256 ^ j)) refl
  where
    by : (n < 128 * 256 ^ j → length (minimal (bytes_high_first (suc j) n)) ≡ signed_size n) → (b : Bool)
        → nat_lt n (128 * 256 ^ j) ≡ b → length (minimal (bytes_high_first (suc (suc j)) n)) ≡ signed_size n
    by again true e =
        let d : n < 128 * 256 ^ j = ltb-true n (128 * 256 ^ j) e in
        rw (size_short j n d) (again d)
    by again false e =
        let d : 128 * 256 ^ j ≤ n = ltb-false n (128 * 256 ^ j) e in
        rw (size_full j n d h, length-high j n, signed_exact j n d h)

-- ---- what is below 0

-- the bytes of a number that is below 0 are what is left of 255 at those of its complement
comp_byte : (p u n x : ℕ) → 0 < p → u + suc n ≡ x * 256 * p → u / p % 256 ≡ 255 - n / p % 256
comp_byte p u n x h e =
    let a = n / p in
    let r = n % p in
    let y = x * 256 - suc a in
    let whole : p * a + r ≡ n = div-add-mod n p in
    let small : r < p = mod-lt n h in
    let under : a < x * 256 = (div-lt_iff_lt-mul h).1 (omega (arith, e)) in
    let is : y + suc a ≡ x * 256 = omega (arith, under) in
    let split : (y + suc a) * p ≡ y * p + suc a * p = add-mul y (suc a) p in
    let more : suc a * p ≡ a * p + p = suc-mul a p in
    let place : u ≡ y * p + (p - suc r) =
    omega (arith, ap (λ m. m * p) is, split, more, mul_comm p a, whole, e, small) in
    let part : u / p ≡ y = ap (λ m. m / p) place ∙ div-mul-add y p (p - suc r) (omega (arith, small)) in
    omega (arith, part, is)

comp_bytes : (k u n x : ℕ) → u + suc n ≡ x * 256 ^ k → bytes_high_first k u ≡ map (λ b. 255 - b) (bytes_high_first k n)
comp_bytes zero u n x e = refl
comp_bytes (suc j) u n x e =
    let shape : u + suc n ≡ x * 256 * 256 ^ j =
    e ∙ ap (λ p. x * p) (pow-succ' 256 j) ∙ sym (mul_assoc x 256 (256 ^ j)) in
    let head : byte_at j u ≡ 255 - byte_at j n =
    byte_is j u ∙ comp_byte (256 ^ j) u n x (positive j) shape ∙ ap (λ m. 255 - m) (sym (byte_is j n)) in
    let tail = comp_bytes j u n (x * 256) shape in
    λ i. head i ∷ tail i

comp_repeats : (b c : ℕ) → b < 256 → c < 256 → repeats_sign (255 - b) (255 - c) ≡ repeats_sign b c
comp_repeats b c h l = grind (arith, nat_tests)

next_small : (b c : ℕ) → b < 128 → repeats_sign b c ≡ true → c < 128
next_small b c h e = grind (arith, nat_tests)

one_byte : (b : Bool) (x : ℕ) → max 1 (length (cond {A = List ℕ} b [] (x ∷ []))) ≡ 1
one_byte true x = refl
one_byte false x = refl

length-comp : (b : ℕ) (bs : List ℕ) → b < 128 → AllByRecursion (λ c. c < 256) bs
    → length (minimal ((255 - b) ∷ map (λ c. 255 - c) bs)) ≡ max 1 (length (minimal (b ∷ bs)))
length-comp b [] h s = rw (ne_eqb (255 - b) 0 (λ d. omega (arith, d))) (sym (one_byte (eqb b 0) b))
length-comp b (c ∷ bs) h s = by (λ l. length-comp c bs l s.1) (repeats_sign b c) refl
  where
    by : (c < 128 → length (minimal ((255 - c) ∷ map (λ d. 255 - d) bs)) ≡ max 1 (length (minimal (c ∷ bs))))
        → (t : Bool) → repeats_sign b c ≡ t → length (minimal ((255 - b) ∷ map (λ d. 255 - d) (c ∷ bs)))
        ≡ max 1 (length (minimal (b ∷ c ∷ bs)))
    by again true e = rw (comp_repeats b c (omega arith) s.0, e) (again (next_small b c h e))
    by again false e = rw (comp_repeats b c (omega arith) s.0, e) (omega (arith, length-map bs (λ d. 255 - d)))

bytes_small : (k n : ℕ) → AllByRecursion (λ b. b < 256) (bytes_high_first k n)
bytes_small zero n = tt
bytes_small (suc k) n = (omega (arith, byte_is k n), bytes_small k n)

signed_some : (k n : ℕ) → 1 ≤ signed_size_in k n
signed_some zero n = omega arith
signed_some (suc k) n = by (nat_lt n 128)
  where
    by : (b : Bool) → 1 ≤ cond {A = ℕ} b 1 (suc (signed_size_in k (n / 256)))
    by true = omega arith
    by false = omega arith

length-some : (n : ℕ) → n < 128 * 256 ^ 15 → max 1 (length (minimal (bytes_high_first 16 n))) ≡ signed_size n
unfolding signed_size
length-some zero h = refl
length-some (suc n) h = omega (arith, length-positive 15 (suc n) h (omega arith), signed_some (suc n) (suc n))

pub length-int_bytes : (z : ℤ) → FitsSigned w128 z → length (int_bytes z) ≡ integer_size z
unfolding int_bytes
length-int_bytes (pos zero) h = refl
length-int_bytes (pos (suc n)) h = length-positive 15 (suc n) h.sfits (omega arith)
length-int_bytes (negsuc n) h =
    let small : n < 128 * 256 ^ 15 = h.sfits in
    let both : (2 ^ 128 - suc n) + suc n ≡ 1 * 256 ^ 16 = omega (arith, h.sfits) in
    let top : n / 256 ^ 15 < 128 = (div-lt_iff_lt-mul (positive 15)).1 small in
    ap (λ bs. length (minimal bs)) (comp_bytes 16 (2 ^ 128 - suc n) n 1 both)
    ∙ length-comp (byte_at 15 n) (bytes_high_first 15 n) (omega (arith, byte_is 15 n, top)) (bytes_small 15 n)
    ∙ length-some n small
