-- What the crate of hexadecimal decodes, once white space is gone, is what the text stands for.
use Rattle.std.proofs.Common.{◌≡◌, ℕ, ◌+◌, ◌*◌, ◌%◌, Bool, true, false, cond, List, [], ◌∷◌, length, inl, inr, Option}
use Rattle.std.proofs.Common.{Some, None, Result, Ok, Err, refl, sym, ap, ◌∙◌, arith}
use Rattle.std.specs.Prelude.{option_map, is_some}
use Rattle.std.specs.Option.{option_and_then}
use Rattle.std.specs.Result.{result_ok}
use Rattle.std.proofs.lemmas.Bool.{cases_eq}
use Rattle.hex.specs.Hex.{hex_digit_value, digit_or_error, decode_pairs, decode_of, ◌>>=◌}
use Rattle.hex.specs.declared.error.FromHexError.{FromHexError}
use Rattle.hex.proofs.HexLemmas.{decode_of-odd, decode_of-even}
use Rattle.pv_lex.specs.Characters.{is_space, hex_digit}
use Rattle.pv_lex.specs.ByteTexts.{hex_in, hex_bytes}
use Rattle.pv_lex.specs.Unspaced.{without_spaces}

-- the bytes of digits in pairs, of a text that has no white space
abbrev pairs_in : Option ℕ → List ℕ → Option (List ℕ)
pairs_in high [] = cond (is_some high) None (Some [])
pairs_in high (b ∷ bs) =
    option_and_then (λ d. elim high [
      | None ↦ pairs_in (Some d) bs
      | Some h ↦ option_map (λ s. (16 * h + d) ∷ s)
          (pairs_in None bs)
    ]) (hex_digit b)

-- ---- white space

unspaced_none : (p : Bool) (b : ℕ) (w : List ℕ) (o : Option (List ℕ)) (f : ℕ → Option (List ℕ)) → o ≡ pairs_in None w
    → ((d : ℕ) → f d ≡ pairs_in (Some d) w)
    → cond p o (option_and_then f (hex_digit b)) ≡ pairs_in None (cond p w (b ∷ w))
unspaced_none true b w o f g h = g
unspaced_none false b w o f g h = by (hex_digit b)
  where
    by : (x : Option ℕ) → option_and_then f x ≡ option_and_then (λ d. pairs_in (Some d) w) x
    by None = refl
    by (Some d) = h d

unspaced_some : (p : Bool) (high b : ℕ) (w : List ℕ) (o : Option (List ℕ)) (q : Option (List ℕ)) → o
    ≡ pairs_in (Some high) w → q ≡ pairs_in None w
    → cond p o (option_and_then (λ d. option_map (λ s. (16 * high + d) ∷ s) q) (hex_digit b))
    ≡ pairs_in (Some high) (cond p w (b ∷ w))
unspaced_some true high b w o q g h = g
unspaced_some false high b w o q g h =
    ap (λ (r : Option (List ℕ)). option_and_then (λ d. option_map (λ s. (16 * high + d) ∷ s) r) (hex_digit b)) h

unspaced : (high : Option ℕ) (s : List ℕ) → hex_in high s ≡ pairs_in high (without_spaces s)
unspaced high [] = refl
unspaced None (b ∷ bs) =
    unspaced_none (is_space b) b (without_spaces bs) (hex_in None bs) (λ d. hex_in (Some d) bs) (unspaced None bs)
    (λ d. unspaced (Some d) bs)
unspaced (Some high) (b ∷ bs) =
    unspaced_some (is_space b) high b (without_spaces bs) (hex_in (Some high) bs) (hex_in None bs)
    (unspaced (Some high) bs) (unspaced None bs)

-- ---- pairs

digit_is : (b : ℕ) → hex_digit_value b ≡ hex_digit b
digit_is b = grind (arith)

pair_step : (a b i : ℕ) (x y : Option ℕ) (r : Result (List ℕ) FromHexError) (q : Option (List ℕ)) → result_ok r ≡ q
    → result_ok ((digit_or_error a i x >>= λ h. digit_or_error b (i + 1) y >>= λ l. Ok
    (h * 16 + l)) >>= λ byte. r >>= λ bytes. Ok (byte ∷ bytes))
    ≡ option_and_then (λ h. option_and_then (λ l. option_map (λ s. (16 * h + l) ∷ s) q) y) x
pair_step a b i None y r q e = refl
pair_step a b i (Some h) None r q e = refl
pair_step a b i (Some h) (Some l) (Ok s) q e =
    let n : h * 16 + l ≡ 16 * h + l = omega arith in
    ap (λ (m : ℕ). Some (m ∷ s)) n ∙ ap (λ (o : Option (List ℕ)). option_map (λ s. (16 * h + l) ∷ s) o) e
pair_step a b i (Some h) (Some l) (Err f) q e = ap (λ (o : Option (List ℕ)). option_map (λ s. (16 * h + l) ∷ s) o) e

one_left : (x : Option ℕ) → option_and_then (λ d. pairs_in (Some d) []) x ≡ None
one_left None = refl
one_left (Some d) = refl

pairs_are : (i : ℕ) (s : List ℕ) → result_ok (decode_pairs i s) ≡ pairs_in None s
unfolding decode_pairs
pairs_are i [] = refl
pairs_are i (a ∷ []) = sym (one_left (hex_digit a))
pairs_are i (a ∷ b ∷ rest) =
    let e =
    pair_step a b i (hex_digit_value a) (hex_digit_value b) (decode_pairs (i + 2) rest) (pairs_in None rest)
    (pairs_are (i + 2) rest) in
    e ∙ (λ j. option_and_then (λ h. option_and_then (λ l. option_map (λ s. (16 * h + l) ∷ s) (pairs_in None rest))
    (digit_is b j)) (digit_is a j))

none_then : (x y : Option ℕ) → option_and_then (λ h. option_and_then (λ l. option_map (λ s. (16 * h + l) ∷ s) None) y) x
    ≡ None
none_then None y = refl
none_then (Some h) None = refl
none_then (Some h) (Some l) = refl

odd_pairs : (s : List ℕ) → length s % 2 ≡ 1 → pairs_in None s ≡ None
odd_pairs [] e = cc e
odd_pairs (a ∷ []) e = one_left (hex_digit a)
odd_pairs (a ∷ b ∷ rest) e = rw (odd_pairs rest (omega (arith, e))) (none_then (hex_digit a) (hex_digit b))

decoded_pairs : (s : List ℕ) → result_ok (decode_of s) ≡ pairs_in None s
decoded_pairs s = elim (cases_eq (length s % 2) 1) [
  | inl odd ↦ ap result_ok (decode_of-odd s odd) ∙ sym (odd_pairs s odd)
  | inr even ↦ ap result_ok (decode_of-even s (omega arith)) ∙ pairs_are 0 s
]

pub hex_decoded : (s : List ℕ) → result_ok (decode_of (without_spaces s)) ≡ hex_bytes s
hex_decoded s = decoded_pairs (without_spaces s) ∙ sym (unspaced None s)
