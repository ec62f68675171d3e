-- What the crate of base64 decodes, in the standard alphabet and without white space, is what the text stands for.
use Rattle.std.proofs.Common.{◌≡◌, ℕ, zero, suc, ◌+◌, ◌-◌, ◌*◌, ◌/◌, ◌%◌, ◌<◌, ◌≤◌, eqb, ltb, Bool, true, false, cond}
use Rattle.std.proofs.Common.{◌&&◌, List, [], ◌∷◌, ◌++◌, length, slice_index, ◌⊎◌, inl, inr, Option, Some, None, Result}
use Rattle.std.proofs.Common.{Ok, Err, refl, sym, ap, subst, ◌∙◌, eq-eqb, ltb-true, arith}
use Rattle.std.specs.Prelude.{option_map, unwrap_or, IfOk, IfSome}
use Rattle.std.specs.Option.{option_and_then}
use Rattle.std.specs.Result.{result_ok}
use Rattle.std.proofs.lemmas.Bool.{agree_below_at, and_parts, eqb-true, ne_eqb, cases_eq, cases_lt}
use Rattle.base64.specs.Rfc4648.{encode_symbols, encode, padding_len}
use Rattle.base64.specs.Engines.{standard, standard_no_pad}
use Rattle.base64.specs.declared.engine.general_purpose.GeneralPurpose.{GeneralPurpose}
use Rattle.base64.specs.GeneralPurpose.{IsBytes, decode_of, encode_of}
use Rattle.base64.proofs.EngineFacts.{decode_of-encode_of}
use Rattle.pv_lex.specs.Characters.{is_space}
use Rattle.pv_lex.specs.ByteTexts.{sextet, group_bytes, last_bytes, is_padding, base64_in, base64_bytes}
use Rattle.pv_lex.specs.Unspaced.{standard_digit, standard_digits}

-- what the digits of a text stand for, where it has no white space
abbrev pad_in : ℕ → List ℕ → Bool
pad_in m [] = eqb m 0
pad_in m (b ∷ bs) = eqb b 61 && ltb 0 m && pad_in (m - 1) bs

abbrev pub digits_in : ℕ → ℕ → List ℕ → Option (List ℕ)
digits_in k n [] = last_bytes k n
digits_in k n (b ∷ bs) =
    cond (eqb b 61) (cond (ltb 0 k && pad_in (3 - k) bs) (last_bytes k n) None)
    (option_and_then (λ d. cond (eqb k 3) (option_map (λ s. group_bytes (64 * n + d) ++ s) (digits_in 0 0 bs))
    (digits_in (k + 1) (64 * n + d) bs)) (sextet b))

-- ---- the standard alphabet

unchanged : (b : ℕ) → (b ≡ 45 → ⊥) → (b ≡ 95 → ⊥) → standard_digit b ≡ b
unchanged b n m = rw (ne_eqb b 45 n, ne_eqb b 95 m) refl

same_pad : (b : ℕ) → eqb (standard_digit b) 61 ≡ eqb b 61
same_pad b = elim (cases_eq b 45) [
  | inl e ↦ rw e refl
  | inr n ↦ elim (cases_eq b 95) [ inl e ↦ rw e refl | inr m ↦ ap (λ x. eqb x 61) (unchanged b n m) ]
]

same_sextet : (b : ℕ) → sextet (standard_digit b) ≡ sextet b
same_sextet b = elim (cases_eq b 45) [
  | inl e ↦ rw e refl
  | inr n ↦ elim (cases_eq b 95) [ inl e ↦ rw e refl | inr m ↦ ap sextet (unchanged b n m) ]
]

once : (b : ℕ) → standard_digit (standard_digit b) ≡ standard_digit b
once b = elim (cases_eq b 45) [
  | inl e ↦ rw e refl
  | inr n ↦ elim (cases_eq b 95) [ inl e ↦ rw e refl | inr m ↦ ap standard_digit (unchanged b n m) ]
]

abbrev pub AreStandard : List ℕ → Type 0
AreStandard [] = Unit {0}
AreStandard (b ∷ bs) = (standard_digit b ≡ b) × AreStandard bs

standard_step : (p : Bool) (b : ℕ) (w : List ℕ) → AreStandard w → AreStandard (cond p w (standard_digit b ∷ w))
standard_step true b w h = h
standard_step false b w h = (once b, h)

pub are_standard : (s : List ℕ) → AreStandard (standard_digits s)
are_standard [] = tt
are_standard (b ∷ bs) = standard_step (is_space b) b (standard_digits bs) (are_standard bs)

-- ---- white space

pad_step : (p : Bool) (m b : ℕ) (w : List ℕ) (x y : Bool) → x ≡ pad_in m w → y ≡ pad_in (m - 1) w
    → cond p x (eqb b 61 && ltb 0 m && y) ≡ pad_in m (cond p w (standard_digit b ∷ w))
pad_step true m b w x y g h = g
pad_step false m b w x y g h = λ i. (sym (same_pad b)) i && ltb 0 m && h i

unspaced_pad : (m : ℕ) (s : List ℕ) → is_padding m s ≡ pad_in m (standard_digits s)
unspaced_pad m [] = refl
unspaced_pad m (b ∷ bs) =
    pad_step (is_space b) m b (standard_digits bs) (is_padding m bs) (is_padding (m - 1) bs) (unspaced_pad m bs)
    (unspaced_pad (m - 1) bs)

digit_step : (p : Bool) (k n b : ℕ) (w : List ℕ) (o z : Option (List ℕ)) (y : Bool) (f : ℕ → Option (List ℕ))
    → o ≡ digits_in k n w → y ≡ pad_in (3 - k) w → z ≡ digits_in 0 0 w
    → ((d : ℕ) → f d ≡ digits_in (k + 1) (64 * n + d) w)
    → cond p o (cond (eqb b 61) (cond (ltb 0 k && y) (last_bytes k n) None)
    (option_and_then (λ d. cond (eqb k 3) (option_map (λ s. group_bytes (64 * n + d) ++ s) z) (f d)) (sextet b)))
    ≡ digits_in k n (cond p w (standard_digit b ∷ w))
digit_step true k n b w o z y f g h i j = g
digit_step false k n b w o z y f g h i j =
    λ t. cond (sym (same_pad b) t) (cond (ltb 0 k && h t) (last_bytes k n) None)
    (option_and_then (λ d. cond (eqb k 3) (option_map (λ s. group_bytes (64 * n + d) ++ s) (i t)) (j d t))
    (sym (same_sextet b) t))

unspaced : (k n : ℕ) (s : List ℕ) → base64_in k n s ≡ digits_in k n (standard_digits s)
unspaced k n [] = refl
unspaced k n (b ∷ bs) =
    digit_step (is_space b) k n b (standard_digits bs) (base64_in k n bs) (base64_in 0 0 bs) (is_padding (3 - k) bs)
    (λ d. base64_in (k + 1) (64 * n + d) bs)
    (unspaced k n bs) (unspaced_pad (3 - k) bs) (unspaced 0 0 bs) (λ d. unspaced (k + 1) (64 * n + d) bs)

-- ---- symbols

abbrev symbol : ℕ → ℕ
symbol d = slice_index standard.encode_table d

abbrev agrees : ℕ → Option ℕ → Bool
agrees b None = true
agrees b (Some d) = ltb d 64 && eqb (symbol d) b

too_large : (b : ℕ) → 128 ≤ b → sextet b ≡ None
too_large b h = grind (arith)

symbol_is : (b d : ℕ) → standard_digit b ≡ b → sextet b ≡ Some d → (d < 64) × (symbol d ≡ b)
symbol_is b d same e = elim (cases_lt b 128) [
  | inl small ↦
      let c : cond (eqb (standard_digit b) b) (agrees b (sextet b)) true ≡ true =
      agree_below_at (λ n. cond (eqb (standard_digit n) n) (agrees n (sextet n)) true)
      (λ n. true) 128 b refl small in
      let held : (ltb d 64 && eqb (symbol d) b) ≡ true =
      (λ i. cond (sym (eq-eqb (standard_digit b) b same) i) (agrees b (sym e i)) true) ∙ c in
      let h = and_parts _ _ held in
      (ltb-true d 64 h.0, eqb-true (symbol d) b h.1)
  | inr large ↦ cc (sym e ∙ too_large b (omega arith))
]

-- ---- a text that stands for bytes is their encoding

abbrev whole_group : ℕ → ℕ → ℕ → List ℕ → Option (List ℕ)
whole_group k n d bs =
    cond (eqb k 3) (option_map (λ s. group_bytes (64 * n + d) ++ s) (digits_in 0 0 bs))
    (digits_in (k + 1) (64 * n + d) bs)

abbrev Padded : ℕ → ℕ → ℕ → List ℕ → List ℕ → Type 0
Padded k n b bs s = (b ≡ 61) × ((ltb 0 k && pad_in (3 - k) bs) ≡ true) × (last_bytes k n ≡ Some s)

abbrev Digit : ℕ → ℕ → ℕ → List ℕ → List ℕ → Type 0
Digit k n b bs s = (d : ℕ) × (d < 64) × (symbol d ≡ b) × (whole_group k n d bs ≡ Some s)

first_step : (q l : Bool) (z : Option (List ℕ)) (o : Option ℕ) (f : ℕ → Option (List ℕ)) (s : List ℕ)
    → cond q (cond l z None) (option_and_then f o) ≡ Some s
    → ((q ≡ true) × (l ≡ true) × (z ≡ Some s)) ⊎ ((d : ℕ) × (o ≡ Some d) × (f d ≡ Some s))
first_step true true z o f s e = inl (refl, refl, e)
first_step true false z o f s e = cc e
first_step false l z None f s e = cc e
first_step false l z (Some d) f s e = inr (d, refl, e)

first : (k n b : ℕ) (bs s : List ℕ) → standard_digit b ≡ b → digits_in k n (b ∷ bs) ≡ Some s → Padded k n b bs s
    ⊎ Digit k n b bs s
first k n b bs s same e =
    elim (first_step (eqb b 61) (ltb 0 k && pad_in (3 - k) bs) (last_bytes k n) (sextet b)
    (λ d. whole_group k n d bs) s e) [
      | inl p ↦ inl (eqb-true b 61 p.0, p.1, p.2)
      | inr x ↦ let at = symbol_is b x.0 same x.1 in inr (x.0, at.0, at.1, x.2)
    ]

no_more : (bs : List ℕ) → pad_in 0 bs ≡ true → bs ≡ []
no_more [] e = refl
no_more (b ∷ bs) e = by (eqb b 61) e
  where
    by : (q : Bool) → (q && false && pad_in (0 - 1) bs) ≡ true → b ∷ bs ≡ []
    by true f = cc f
    by false f = cc f

one_more_pad : (b : ℕ) (bs : List ℕ) → pad_in 1 (b ∷ bs) ≡ true → (b ≡ 61) × (bs ≡ [])
one_more_pad b bs e =
    let h = and_parts _ _ e in
    let g = and_parts _ _ h.0 in
    (eqb-true b 61 g.0, no_more bs h.1)

got : Option (List ℕ) → List ℕ
got None = []
got (Some s) = s

some_same : (s t : List ℕ) → Some s ≡ Some t → s ≡ t
unfolding got
some_same s t e = ap got e

if_whole : (q : Bool) (s t : List ℕ) → cond q (Some s) None ≡ Some t → (q ≡ true) × (s ≡ t)
if_whole true s t e = (refl, some_same s t e)
if_whole false s t e = cc e

last_two : (n : ℕ) (s : List ℕ) → last_bytes 2 n ≡ Some s → (n % 16 ≡ 0) × (n / 16 ∷ [] ≡ s)
last_two n s e = let h = if_whole (eqb (n % 16) 0) (n / 16 ∷ []) s e in (eqb-true (n % 16) 0 h.0, h.1)

last_three : (n : ℕ) (s : List ℕ) → last_bytes 3 n ≡ Some s → (n % 4 ≡ 0) × (n / 1024 ∷ n / 4 % 256 ∷ [] ≡ s)
last_three n s e = let h = if_whole (eqb (n % 4) 0) (n / 1024 ∷ n / 4 % 256 ∷ []) s e in (eqb-true (n % 4) 0 h.0, h.1)

mapped : (f : List ℕ → List ℕ) (o : Option (List ℕ)) (t : List ℕ) → option_map f o ≡ Some t → (s : List ℕ)
    × (o ≡ Some s) × (f s ≡ t)
mapped f None t e = cc e
mapped f (Some s) t e = (s, refl, some_same (f s) t e)

-- the encoding of bytes, and that they are bytes
abbrev Encodes : Bool → List ℕ → List ℕ → Type 0
Encodes padding t s = (t ≡ encode standard.encode_table 61 padding s) × IsBytes s

one_encodes : (padding : Bool) (x y a b : ℕ) (tail s : List ℕ) → x < 64 → y < 64 → symbol x ≡ a → symbol y ≡ b
    → last_bytes 2 (64 * (64 * 0 + x) + y) ≡ Some s
    → tail ≡ cond padding (61 ∷ 61 ∷ []) [] → Encodes padding (a ∷ b ∷ tail) s
unfolding encode_symbols
one_encodes padding x y a b tail s hx hy ex ey e et =
    let n : ℕ = 64 * (64 * 0 + x) + y in
    let l = last_two n s e in
    let none_left : n % 16 ≡ 0 = l.0 in
    let p : x ≡ n / 16 / 4 = omega arith in
    let q : y ≡ n / 16 % 4 * 16 = omega arith in
    let small : n / 16 < 256 = omega arith in
    rw (← l.1) (
      (λ i. (sym ex ∙ ap symbol p) i ∷ (sym ey ∙ ap symbol q) i ∷ et i),
      λ k. one_byte (n / 16) small k,
    )
  where
    one_byte : (v : ℕ) → v < 256 → IsBytes (v ∷ [])
    one_byte v h zero = h
    one_byte v h (suc k) = omega arith

two_encode : (padding : Bool) (x y z a b c : ℕ) (tail s : List ℕ) → x < 64 → y < 64 → z < 64 → symbol x ≡ a → symbol y
    ≡ b → symbol z ≡ c
    → last_bytes 3 (64 * (64 * (64 * 0 + x) + y) + z) ≡ Some s → tail ≡ cond padding (61 ∷ []) []
    → Encodes padding (a ∷ b ∷ c ∷ tail) s
unfolding encode_symbols
two_encode padding x y z a b c tail s hx hy hz ex ey ez e et =
    let n : ℕ = 64 * (64 * (64 * 0 + x) + y) + z in
    let l = last_three n s e in
    let none_left : n % 4 ≡ 0 = l.0 in
    let is : n ≡ 4096 * x + 64 * y + z = omega arith in
    let high : n / 1024 ≡ 4 * x + y / 16 = omega arith in
    let low : n / 4 % 256 ≡ y % 16 * 16 + z / 4 = omega arith in
    let p : x ≡ n / 1024 / 4 = omega (arith, high) in
    let q : y ≡ n / 1024 % 4 * 16 + n / 4 % 256 / 16 = omega (arith, high, low) in
    let r : z ≡ n / 4 % 256 % 16 * 4 = omega (arith, low) in
    let small : n / 1024 < 256 = omega (arith, high) in
    let next : n / 4 % 256 < 256 = omega arith in
    rw (← l.1) (
      (λ i. (sym ex ∙ ap symbol p) i ∷ (sym ey ∙ ap symbol q) i ∷ (sym ez ∙ ap symbol r) i ∷ et i),
      λ k. two_bytes (n / 1024) (n / 4 % 256) small next k,
    )
  where
    two_bytes : (u v : ℕ) → u < 256 → v < 256 → IsBytes (u ∷ v ∷ [])
    two_bytes u v h g zero = h
    two_bytes u v h g (suc zero) = g
    two_bytes u v h g (suc (suc k)) = omega arith

-- the encoding of three bytes and more
grouped : (padding : Bool) (a b c : ℕ) (bs : List ℕ) → encode standard.encode_table 61 padding (a ∷ b ∷ c ∷ bs)
    ≡ symbol (a / 4) ∷ symbol (a % 4 * 16 + b / 16) ∷ symbol (b % 16 * 4 + c / 64) ∷ symbol
    (c % 64) ∷ encode standard.encode_table 61 padding bs
unfolding encode_symbols
grouped false a b c bs = refl
grouped true a b c bs =
    let same : padding_len (suc (suc (suc (length bs)))) ≡ padding_len (length bs) = omega arith in
    rw same refl

group_encodes : (padding : Bool) (x y z w a b c d : ℕ) (tail s u : List ℕ) → x < 64 → y < 64 → z < 64 → w < 64
    → symbol x ≡ a → symbol y ≡ b → symbol z ≡ c → symbol w ≡ d
    → group_bytes (64 * (64 * (64 * (64 * 0 + x) + y) + z) + w) ++ u ≡ s → Encodes padding tail u
    → Encodes padding (a ∷ b ∷ c ∷ d ∷ tail) s
group_encodes padding x y z w a b c d tail s u hx hy hz hw ex ey ez ew e h =
    let n : ℕ = 64 * (64 * (64 * (64 * 0 + x) + y) + z) + w in
    let is : n ≡ 262144 * x + 4096 * y + 64 * z + w = omega arith in
    let one : n / 65536 ≡ 4 * x + y / 16 = omega arith in
    let two : n / 256 % 256 ≡ y % 16 * 16 + z / 4 = omega arith in
    let three : n % 256 ≡ z % 4 * 64 + w = omega arith in
    let p : x ≡ n / 65536 / 4 = omega (arith, one) in
    let q : y ≡ n / 65536 % 4 * 16 + n / 256 % 256 / 16 = omega (arith, one, two) in
    let r : z ≡ n / 256 % 256 % 16 * 4 + n % 256 / 64 = omega (arith, two, three) in
    let t : w ≡ n % 256 % 64 = omega (arith, three) in
    let small : n / 65536 < 256 = omega (arith, one) in
    rw (← e) (
      (λ i. (sym ex ∙ ap symbol p) i ∷ (sym ey ∙ ap symbol q) i ∷ (sym ez ∙ ap symbol r) i ∷ (sym ew
          ∙ ap symbol t) i ∷ h.0 i)
          ∙ sym (grouped padding (n / 65536) (n / 256 % 256) (n % 256) u),
      λ k. three_bytes (n / 65536) (n / 256 % 256) (n % 256) u small (omega arith) (omega arith) h.1 k,
    )
  where
    three_bytes : (f g j : ℕ) (v : List ℕ) → f < 256 → g < 256 → j < 256 → IsBytes v → IsBytes (f ∷ g ∷ j ∷ v)
    three_bytes f g j v hf hg hj hv zero = hf
    three_bytes f g j v hf hg hj hv (suc zero) = hg
    three_bytes f g j v hf hg hj hv (suc (suc zero)) = hj
    three_bytes f g j v hf hg hj hv (suc (suc (suc k))) = hv k

abbrev pub in_fours : List ℕ → Bool
in_fours t = eqb (length t % 4) 0

four_more : (a b c d : ℕ) (t : List ℕ) → in_fours t ≡ in_fours (a ∷ b ∷ c ∷ d ∷ t)
four_more a b c d t =
    let same : length t % 4 ≡ suc (suc (suc (suc (length t)))) % 4 = omega arith in
    ap (λ n. eqb n 0) same

nil_bytes : IsBytes []
nil_bytes i = omega arith

whole : (t s : List ℕ) → AreStandard t → digits_in 0 0 t ≡ Some s → Encodes (in_fours t) t s
unfolding encode_symbols
whole [] s std e = rw (← some_same [] s e) (refl, nil_bytes)
whole (a ∷ []) s std e = elim (first 0 0 a [] s std.0 e) [ inl p ↦ cc p.1 | inr x ↦ cc x.3 ]
whole (a ∷ b ∷ []) s std e = elim (first 0 0 a (b ∷ []) s std.0 e) [
  | inl p ↦ cc p.1
  | inr x ↦ elim (first 1 (64 * 0 + x.0) b [] s std.1.0 x.3) [
    | inl p ↦ cc p.2
    | inr y ↦ one_encodes false x.0 y.0 a b [] s x.1 y.1 x.2 y.2 y.3 refl
  ]
]
whole (a ∷ b ∷ c ∷ []) s std e = elim (first 0 0 a (b ∷ c ∷ []) s std.0 e) [
  | inl p ↦ cc p.1
  | inr x ↦ elim (first 1 (64 * 0 + x.0) b (c ∷ []) s std.1.0 x.3) [
    | inl p ↦ cc p.2
    | inr y ↦ elim (first 2 (64 * (64 * 0 + x.0) + y.0) c [] s std.1.1.0 y.3) [
      | inl p ↦ cc p.1
      | inr z ↦ two_encode false x.0 y.0 z.0 a b c [] s x.1 y.1 z.1 x.2 y.2 z.2 z.3 refl
    ]
  ]
]
whole (a ∷ b ∷ c ∷ d ∷ t) s std e = elim (first 0 0 a (b ∷ c ∷ d ∷ t) s std.0 e) [
  | inl p ↦ cc p.1
  | inr x ↦ elim (first 1 (64 * 0 + x.0) b (c ∷ d ∷ t) s std.1.0 x.3) [
    | inl p ↦ cc p.2
    | inr y ↦ elim (first 2 (64 * (64 * 0 + x.0) + y.0) c (d ∷ t) s std.1.1.0 y.3) [
      | inl p ↦
          let pads = one_more_pad d t p.1 in
          rw (p.0, pads.0, pads.1) (one_encodes true x.0 y.0 a b (61 ∷ 61 ∷ []) s x.1 y.1 x.2 y.2 p.2 refl)
      | inr z ↦ elim (first 3 (64 * (64 * (64 * 0 + x.0) + y.0) + z.0) d t s std.1.1.1.0 z.3) [
        | inl p ↦ rw (p.0, no_more t p.1)
            (two_encode true x.0 y.0 z.0 a b c (61 ∷ []) s x.1 y.1 z.1 x.2 y.2 z.2 p.2 refl)
        | inr w ↦
            let m =
            mapped (λ u. group_bytes (64 * (64 * (64 * (64 * 0 + x.0) + y.0) + z.0) + w.0) ++ u)
            (digits_in 0 0 t) s w.3 in
            let rest = whole t m.0 std.1.1.1.1 m.1 in
            rw (← four_more a b c d t)
            (group_encodes (in_fours t) x.0 y.0 z.0 w.0 a b c d t s m.0 x.1 y.1 z.1 w.1 x.2 y.2 z.2 w.2 m.2 rest)
      ]
    ]
  ]
]

-- ---- an encoding stands for its bytes

no_pad : (d : ℕ) → d < 64 → eqb (symbol d) 61 ≡ false
no_pad d h = agree_below_at (λ n. eqb (symbol n) 61) (λ n. false) 64 d refl h

some_at : (o : Option ℕ) (d m : ℕ) → eqb (unwrap_or o m) d ≡ true → d < m → o ≡ Some d
some_at None d m e h = absurd (omega (arith, eqb-true m d e))
some_at (Some x) d m e h = ap (λ (y : ℕ). Some y) (eqb-true x d e)

sextet_back : (d : ℕ) → d < 64 → sextet (symbol d) ≡ Some d
sextet_back d h =
    some_at (sextet (symbol d)) d 64 (agree_below_at (λ n. eqb (unwrap_or (sextet (symbol n)) 64) n)
    (λ n. true) 64 d refl h) h

back_step : (q l : Bool) (z : Option (List ℕ)) (o : Option ℕ) (d : ℕ) (f : ℕ → Option (List ℕ)) → q ≡ false → o ≡ Some d
    → cond q (cond l z None) (option_and_then f o) ≡ f d
back_step true l z o d f e g = cc e
back_step false l z o d f e g = ap (option_and_then f) g

digit_back : (k n d : ℕ) (bs : List ℕ) → d < 64 → digits_in k n (symbol d ∷ bs) ≡ whole_group k n d bs
digit_back k n d bs h =
    back_step (eqb (symbol d) 61) (ltb 0 k && pad_in (3 - k) bs) (last_bytes k n) (sextet (symbol d)) d
    (λ x. whole_group k n x bs) (no_pad d h) (sextet_back d h)

two_digits : (d e : ℕ) (bs : List ℕ) → d < 64 → e < 64 → digits_in 0 0 (symbol d ∷ symbol e ∷ bs)
    ≡ digits_in 2 (64 * (64 * 0 + d) + e) bs
two_digits d e bs h k = digit_back 0 0 d (symbol e ∷ bs) h ∙ digit_back 1 (64 * 0 + d) e bs k

one_byte_back : (a : ℕ) → a < 256 → last_bytes 2 (64 * (64 * 0 + a / 4) + a % 4 * 16) ≡ Some (a ∷ [])
one_byte_back a h =
    let n : ℕ = 64 * (64 * 0 + a / 4) + a % 4 * 16 in
    let none_left : n % 16 ≡ 0 = omega arith in
    let byte : n / 16 ≡ a = omega arith in
    (λ i. cond (eqb (none_left i) 0) (Some (n / 16 ∷ [])) None) ∙ ap (λ (x : ℕ). Some (x ∷ [])) byte

two_bytes_back : (a b : ℕ) → a < 256 → b < 256
    → last_bytes 3 (64 * (64 * (64 * 0 + a / 4) + (a % 4 * 16 + b / 16)) + b % 16 * 4) ≡ Some (a ∷ b ∷ [])
two_bytes_back a b h g =
    let n : ℕ = 64 * (64 * (64 * 0 + a / 4) + (a % 4 * 16 + b / 16)) + b % 16 * 4 in
    let is : n ≡ 1024 * a + 4 * b = omega arith in
    let none_left : n % 4 ≡ 0 = omega arith in
    let one : n / 1024 ≡ a = omega arith in
    let two : n / 4 % 256 ≡ b = omega arith in
    (λ i. cond (eqb (none_left i) 0) (Some (n / 1024 ∷ n / 4 % 256 ∷ [])) None) ∙ (λ i. Some (one i ∷ two i ∷ []))

three_bytes_back : (a b c : ℕ) → a < 256 → b < 256 → c < 256
    → group_bytes (64 * (64 * (64 * (64 * 0 + a / 4) + (a % 4 * 16 + b / 16)) + (b % 16 * 4 + c / 64)) + c % 64)
    ≡ a ∷ b ∷ c ∷ []
three_bytes_back a b c ha hb hc =
    let n : ℕ = 64 * (64 * (64 * (64 * 0 + a / 4) + (a % 4 * 16 + b / 16)) + (b % 16 * 4 + c / 64)) + c % 64 in
    let is : n ≡ 65536 * a + 256 * b + c = omega arith in
    let one : n / 65536 ≡ a = omega arith in
    let two : n / 256 % 256 ≡ b = omega arith in
    let three : n % 256 ≡ c = omega arith in
    λ i. one i ∷ two i ∷ three i ∷ []

back : (padding : Bool) (s : List ℕ) → IsBytes s → digits_in 0 0 (encode standard.encode_table 61 padding s) ≡ Some s
unfolding encode_symbols
back true [] h = refl
back false [] h = refl
back true (a ∷ []) h =
    let x : a < 256 = h 0 in
    two_digits (a / 4) (a % 4 * 16) (61 ∷ 61 ∷ []) (omega arith) (omega arith) ∙ one_byte_back a x
back false (a ∷ []) h =
    let x : a < 256 = h 0 in
    two_digits (a / 4) (a % 4 * 16) [] (omega arith) (omega arith) ∙ one_byte_back a x
back true (a ∷ b ∷ []) h =
    let x : a < 256 = h 0 in
    let y : b < 256 = h 1 in
    let m : ℕ = 64 * (64 * 0 + a / 4) + (a % 4 * 16 + b / 16) in
    two_digits (a / 4) (a % 4 * 16 + b / 16) (symbol (b % 16 * 4) ∷ 61 ∷ []) (omega arith) (omega arith)
    ∙ digit_back 2 m (b % 16 * 4) (61 ∷ []) (omega arith) ∙ two_bytes_back a b x y
back false (a ∷ b ∷ []) h =
    let x : a < 256 = h 0 in
    let y : b < 256 = h 1 in
    let m : ℕ = 64 * (64 * 0 + a / 4) + (a % 4 * 16 + b / 16) in
    two_digits (a / 4) (a % 4 * 16 + b / 16) (symbol (b % 16 * 4) ∷ []) (omega arith) (omega arith)
    ∙ digit_back 2 m (b % 16 * 4) [] (omega arith) ∙ two_bytes_back a b x y
back padding (a ∷ b ∷ c ∷ bs) h =
    let x : a < 256 = h 0 in
    let y : b < 256 = h 1 in
    let z : c < 256 = h 2 in
    let t : List ℕ = encode standard.encode_table 61 padding bs in
    let m : ℕ = 64 * (64 * 0 + a / 4) + (a % 4 * 16 + b / 16) in
    let n : ℕ = 64 * m + (b % 16 * 4 + c / 64) in
    ap (digits_in 0 0) (grouped padding a b c bs)
    ∙ two_digits (a / 4) (a % 4 * 16 + b / 16) (symbol (b % 16 * 4 + c / 64) ∷ symbol (c % 64) ∷ t) (omega arith)
    (omega arith)
    ∙ digit_back 2 m (b % 16 * 4 + c / 64) (symbol (c % 64) ∷ t) (omega arith)
    ∙ digit_back 3 n (c % 64) t (omega arith)
    ∙ ap (option_map (λ s. group_bytes (64 * n + c % 64) ++ s)) (back padding bs (λ i. h (suc (suc (suc i)))))
    ∙ ap (λ (f : List ℕ). Some (f ++ bs)) (three_bytes_back a b c x y z)

-- ---- what is decoded

-- with padding where digits come in fours
abbrev pub engine_by : Bool → GeneralPurpose
engine_by true = standard
engine_by false = standard_no_pad

decodes : (padding : Bool) (t s : List ℕ) → Encodes padding t s → decode_of (engine_by padding) t ≡ Ok s
decodes true t s h = subst (λ x. decode_of standard x ≡ Ok s) (sym h.0) (decode_of-encode_of standard s refl h.1)
decodes false t s h =
    subst (λ x. decode_of standard_no_pad x ≡ Ok s) (sym h.0) (decode_of-encode_of standard_no_pad s refl h.1)

engine_back : (padding : Bool) (s : List ℕ) → IsBytes s → digits_in 0 0 (encode_of (engine_by padding) s) ≡ Some s
engine_back true s h = back true s h
engine_back false s h = back false s h

decoded_is : {A : Type 0} (f : A → List ℕ) (padding : Bool) (t : List ℕ) (r : Option A) → in_fours t ≡ padding
    → AreStandard t
    → option_map f r ≡ result_ok (decode_of (engine_by padding) t)
    → IfSome r (λ v. (t ≡ encode_of (engine_by padding) (f v)) × IsBytes (f v)) → option_map f r ≡ digits_in 0 0 t
decoded_is f padding t (Some v) fours std e h = sym (ap (digits_in 0 0) h.0 ∙ engine_back padding (f v) h.1)
decoded_is f padding t None fours std e h = by (digits_in 0 0 t) refl
  where
    by : (o : Option (List ℕ)) → digits_in 0 0 t ≡ o → None ≡ o
    by None g = refl
    by (Some s) g = cc (e ∙ ap result_ok (decodes padding t s (subst (λ q. Encodes q t s) fours (whole t s std g))))

pub base64_decoded : {A E : Type 0} (f : A → List ℕ) (padding : Bool) (text t : List ℕ) (x : Result (Option A) E) → t
    ≡ standard_digits text → in_fours t ≡ padding
    → IfOk x (λ r. option_map f r ≡ result_ok (decode_of (engine_by padding) t))
    → IfOk x (λ r. IfSome r (λ v. (t ≡ encode_of (engine_by padding) (f v)) × IsBytes (f v)))
    → IfOk x (λ r. option_map f r ≡ base64_bytes text)
base64_decoded f padding text t (Err e) is fours h g = tt
base64_decoded f padding text t (Ok r) is fours h g =
    decoded_is f padding t r fours (subst AreStandard (sym is) (are_standard text)) h g ∙ ap (digits_in 0 0) is
    ∙ sym (unspaced 0 0 text)
