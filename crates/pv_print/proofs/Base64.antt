-- What is written in base64 stands for the bytes.
use Rattle.std.proofs.Common.{◌≡◌, ℕ, ◌+◌, ◌*◌, ◌/◌, ◌%◌, ◌<◌, true, false, ◌||◌, eqb, List, [], ◌∷◌, ◌++◌, Option}
use Rattle.std.proofs.Common.{Some, None, refl, ap, ◌∙◌, arith}
use Rattle.std.specs.Prelude.{option_map, unwrap_or}
use Rattle.std.proofs.lemmas.Bool.{or_parts, eqb-true, agree_below_at}
use Rattle.pv_lex.specs.Characters.{is_space}
use Rattle.pv_lex.specs.ByteTexts.{sextet, group_bytes, base64_in, base64_bytes}
use Rattle.pv_print.specs.Base64.{base64_digit, in_base64}
use Rattle.pv_print.proofs.Ascii.{AreBytes}

-- ---- digits

no_space : (d : ℕ) → d < 64 → (is_space (base64_digit d) ≡ false) × (eqb (base64_digit d) 61 ≡ false)
no_space d h =
    or_parts _ _ (agree_below_at (λ n. is_space (base64_digit n) || eqb (base64_digit n) 61) (λ n. false) 64 d refl h)

pub some_at : (o : Option ℕ) (d m : ℕ) → eqb (unwrap_or o m) d ≡ true → d < m → o ≡ Some d
some_at None d m e h = absurd (omega (arith, eqb-true m d e))
some_at (Some x) d m e h = ap (λ (y : ℕ). Some y) (eqb-true x d e)

sextet_back : (d : ℕ) → d < 64 → sextet (base64_digit d) ≡ Some d
sextet_back d h =
    some_at (sextet (base64_digit d)) d 64 (agree_below_at (λ n. eqb (unwrap_or (sextet (base64_digit n)) 64) n)
    (λ n. true) 64 d refl h) h

one_more : (k n d : ℕ) (bs : List ℕ) → d < 64 → eqb k 3 ≡ false → base64_in k n (base64_digit d ∷ bs) ≡ base64_in
    (k + 1) (64 * n + d) bs
one_more k n d bs h e = rw ((no_space d h).0, (no_space d h).1, sextet_back d h, e)

fourth : (n d : ℕ) (bs : List ℕ) → d < 64 → base64_in 3 n (base64_digit d ∷ bs) ≡ option_map
    (λ s. group_bytes (64 * n + d) ++ s) (base64_in 0 0 bs)
fourth n d bs h = rw ((no_space d h).0, (no_space d h).1, sextet_back d h)

-- ---- groups

two_digits : (d e : ℕ) (bs : List ℕ) → d < 64 → e < 64
    → base64_in 0 0 (base64_digit d ∷ base64_digit e ∷ bs) ≡ base64_in 2 (64 * (64 * 0 + d) + e) bs
two_digits d e bs h k = one_more 0 0 d (base64_digit e ∷ bs) h refl ∙ one_more 1 (64 * 0 + d) e bs k refl

three_bytes : (a b c : ℕ) → a < 256 → b < 256 → c < 256
    → group_bytes (64 * (64 * (64 * (64 * 0 + a / 4) + (a % 4 * 16 + b / 16)) + (b % 16 * 4 + c / 64)) + c %
    64) ≡ a ∷ b ∷ c ∷ []
three_bytes a b c ha hb hc =
    let n = 64 * (64 * (64 * (64 * 0 + a / 4) + (a % 4 * 16 + b / 16)) + (b % 16 * 4 + c / 64)) + c % 64 in
    let whole : n ≡ 65536 * a + 256 * b + c = omega arith in
    let first : n / 65536 ≡ a = omega arith in
    let second : n / 256 % 256 ≡ b = omega arith in
    let third : n % 256 ≡ c = omega arith in
    λ i. first i ∷ second i ∷ third i ∷ []

pub base64_back : (s : List ℕ) → AreBytes s → base64_bytes (in_base64 s) ≡ Some s
base64_back [] h = refl
base64_back (a ∷ []) h =
    let e = two_digits (a / 4) (a % 4 * 16) (61 ∷ 61 ∷ []) (omega arith) (omega arith) in
    let n = 64 * (64 * 0 + a / 4) + a % 4 * 16 in
    let none_left : n % 16 ≡ 0 = omega arith in
    let byte : n / 16 ≡ a = omega arith in
    rw (e, none_left) (ap (λ x. Some (x ∷ [])) byte)
base64_back (a ∷ b ∷ []) h =
    let e = two_digits (a / 4) (a % 4 * 16 + b / 16) (base64_digit (b % 16 * 4) ∷ 61 ∷ []) (omega arith)
    (omega arith) in
    let m = 64 * (64 * 0 + a / 4) + (a % 4 * 16 + b / 16) in
    let f = one_more 2 m (b % 16 * 4) (61 ∷ []) (omega arith) refl in
    let n = 64 * m + b % 16 * 4 in
    let whole : n ≡ 1024 * a + 4 * b = omega arith in
    let none_left : n % 4 ≡ 0 = omega arith in
    let first : n / 1024 ≡ a = omega arith in
    let second : n / 4 % 256 ≡ b = omega arith in
    rw (e, f, none_left) (λ i. Some (first i ∷ second i ∷ []))
base64_back (a ∷ b ∷ c ∷ bs) h =
    let e = two_digits (a / 4) (a % 4 * 16 + b / 16) (base64_digit (b % 16 * 4 + c / 64) ∷ base64_digit
    (c % 64) ∷ in_base64 bs) (omega arith) (omega arith) in
    let m = 64 * (64 * 0 + a / 4) + (a % 4 * 16 + b / 16) in
    let f = one_more 2 m (b % 16 * 4 + c / 64) (base64_digit (c % 64) ∷ in_base64 bs) (omega arith) refl in
    let g = fourth (64 * m + (b % 16 * 4 + c / 64)) (c % 64) (in_base64 bs) (omega arith) in
    let rest : base64_in 0 0 (in_base64 bs) ≡ Some bs = base64_back bs h.1.1.1 in
    e ∙ f ∙ g ∙ ap (λ o. option_map (λ s. group_bytes (64 * (64 * m + (b % 16 * 4 + c / 64)) + c % 64) ++ s) o) rest
    ∙ ap (λ x. Some (x ++ bs)) (three_bytes a b c (omega arith) (omega arith) (omega arith))
