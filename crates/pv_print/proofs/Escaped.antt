-- What is escaped is UTF-8, and stands for what was escaped.
use Rattle.std.proofs.Common.{◌≡◌, ℕ, zero, suc, ◌<◌, ◌≤◌, Bool, true, false, ◌&&◌, ◌||◌, not, nat_lt, cond, eqb, List}
use Rattle.std.proofs.Common.{[], ◌∷◌, ◌++◌, length, take, get_or, ◌+◌, Some, Result, Ok, Err, IsUtf8, inl, inr, refl}
use Rattle.std.proofs.Common.{sym, ap, ap₂, ◌∙◌, subst, arith, append_assoc, append-nil, length-append}
use Rattle.std.specs.Prelude.{encode_utf8}
use Rattle.std.proofs.lemmas.List.{take_more}
use Rattle.std.specs.Result.{result_ok}
use Rattle.std.proofs.lemmas.Bool.{eqb-true, and_parts, cases_lt, ne_eqb, le-ltb, agree_below, agree_below_at}
use Rattle.std.proofs.lemmas.Str.{IsUtf8-append, IsUtf8-nil, IsUtf8-encode, encode_ascii, inside_one}
use lib.Utf8.{scalar, scalars, encode, encodes}
use Rattle.pv_lex.specs.Characters.{all_of}
use Rattle.pv_lex.specs.Numbers.{is_empty}
use Rattle.pv_lex.specs.Quoted.{items_value}
use Rattle.pv_lex.specs.Escapes.{pair_at, unit_at, unicode_at, escape_at, text_item, unescaped}
use Rattle.pv_lex.specs.Lemmas.Readers.{text_item_reader}
use Rattle.pv_lex.specs.declared.faults.TextKind.{TextKind}
use Rattle.pv_lex.specs.declared.faults.TextKind.TheVariants.{BadBytes, Unclosed}
use Rattle.pv_print.specs.Hex.{hex_pairs}
use Rattle.pv_print.specs.Escaped.{control_escape, stands_raw, escape, escaped}
use Rattle.pv_print.proofs.Ascii.{is_ascii, utf8_ascii}

-- ---- what is known of each quote, by its 128 cases

-- the answer is this one byte, and nothing is left
abbrev is_only : ℕ → List ℕ → Bool
is_only b [] = false
is_only b (c ∷ cs) = eqb c b && is_empty cs

abbrev is_item : ℕ → Result (List ℕ × List ℕ) TextKind → Bool
is_item b (Err k) = false
is_item b (Ok x) = is_only b x.0 && is_empty x.1

abbrev reads_back : ℕ → ℕ → Bool
reads_back quote b = is_item b (text_item quote (escape quote b)) && all_of is_ascii (escape quote b)

pub record IsQuote (quote : ℕ) : Type 0 where
  pub ascii : quote < 128
  pub read : agree_below (reads_back quote) (λ b. true) 128 ≡ true
  pub shut : (bs : List ℕ) → text_item quote (quote ∷ bs) ≡ Err BadBytes

pub string_marks : IsQuote 34
unfolding text_item escape_at unicode_at unit_at pair_at hex_pairs encode_utf8
string_marks = record { ascii = omega arith; read = refl; shut = λ bs. refl }

pub symbol_marks : IsQuote 124
unfolding text_item escape_at unicode_at unit_at pair_at hex_pairs encode_utf8
symbol_marks = record { ascii = omega arith; read = refl; shut = λ bs. refl }

nothing : (quote : ℕ) → text_item quote [] ≡ Err Unclosed
unfolding text_item
nothing quote = refl

-- ---- what is escaped in parts

pub escaped-append : (quote : ℕ) (s t : List ℕ) → escaped quote (s ++ t) ≡ escaped quote s ++ escaped quote t
escaped-append quote [] t = refl
escaped-append quote (b ∷ bs) t =
    ap (λ l. escape quote b ++ l) (escaped-append quote bs t) ∙ sym (append_assoc (escape quote b) _ _)

pub raw_escape : (quote b : ℕ) → stands_raw quote b ≡ true → escape quote b ≡ b ∷ []
raw_escape quote b e = by (eqb b quote) (eqb b 92) (nat_lt b 32) e
  where
    by : (t u w : Bool) → (not t && not u && not w) ≡ true
        → cond (t || u) (92 ∷ b ∷ []) (cond w (control_escape b) (b ∷ [])) ≡ b ∷ []
    by true u w f = cc
    by false true w f = cc
    by false false true f = cc
    by false false false f = refl

-- one more byte that stands as it is
pub raw_more : (quote : ℕ) (text : List ℕ) (n b : ℕ) → n < length text → b ≡ get_or text n 0
    → escaped quote (take n text) ≡ take n text
    → stands_raw quote b ≡ true → escaped quote (take (n + 1) text) ≡ take (n + 1) text
raw_more quote text n b below is raw e =
    let more : take (n + 1) text ≡ take n text ++ b ∷ [] = take_more text n 0 below
    ∙ ap (λ (x : ℕ). take n text ++ x ∷ []) (sym is) in
    ap (escaped quote) more ∙ escaped-append quote (take n text) (b ∷ [])
    ∙ (λ i. raw i ++ (raw_escape quote b e i ++ [])) ∙ sym more

-- a run, an escape, and what comes behind
pub run_more : (quote : ℕ) (out more new front text run rest after : List ℕ) (b : ℕ)
    → out ++ escaped quote rest ≡ front ++ escaped quote text → rest ≡ run ++ b ∷ after
    → escaped quote run ≡ run → more ≡ out ++ run → new ≡ more ++ escape quote b
    → new ++ escaped quote after ≡ front ++ escaped quote text
run_more quote out more new front text run rest after b i is raw e f =
    let shape : ((out ++ run) ++ escape quote b) ++ escaped quote
    after ≡ out ++ (run ++ (escape quote b ++ escaped quote after)) = simp append_assoc in
    ap (λ (x : List ℕ). x ++ escaped quote after) (f ∙ ap (λ (x : List ℕ). x ++ escape quote b) e) ∙ shape
    ∙ ap (λ (x : List ℕ). out ++ (x ++ (escape quote b ++ escaped quote after))) (sym raw)
    ∙ ap (λ (x : List ℕ). out ++ x) (sym (escaped-append quote run (b ∷ after)) ∙ ap (escaped quote) (sym is)) ∙ i

-- ---- from 128 up

module _ (quote : ℕ) (q : IsQuote quote) where
  high_plain : (b : ℕ) → 128 ≤ b → escape quote b ≡ b ∷ []
  high_plain b h =
      rw (ne_eqb b quote (λ e. omega (arith, q.ascii)), ne_eqb b 92 (λ e. omega arith), le-ltb b 32 (omega arith))

  escaped_high : (bs : List ℕ) → ((k : ℕ) → k < length bs → 128 ≤ get_or bs k 0) → escaped quote bs ≡ bs
  escaped_high [] h = refl
  escaped_high (b ∷ bs) h =
      ap₂ (λ (a c : List ℕ). a ++ c) (high_plain b (h 0 (omega arith)))
      (escaped_high bs (λ k below. h (suc k) (omega arith)))

  -- ---- UTF-8

  low_parts : (b : ℕ) → b < 128 → (is_item b (text_item quote (escape quote b)) ≡ true)
      × (all_of is_ascii (escape quote b) ≡ true)
  low_parts b h = and_parts _ _ (agree_below_at (reads_back quote) (λ n. true) 128 b q.read h)

  one_character : (c : ℕ) → scalar c ≡ true → IsUtf8 (escaped quote (encode c))
  one_character c ok = elim (cases_lt c 128) [
    | inl small ↦ rw (encode_ascii c small, append-nil) (utf8_ascii (escape quote c) (low_parts c small).1)
    | inr big ↦
        let high : (k : ℕ) → k < length (encode c) → 128 ≤ get_or (encode c) k 0 =
        λ k below. elim (cases_lt (get_or (encode c) k 0) 128) [
          | inl low ↦ absurd (omega (arith, inside_one c [] (encode c) k (sym (append-nil _)) below low))
          | inr h ↦ h
        ] in
        subst IsUtf8 (sym (escaped_high (encode c) high)) (IsUtf8-encode c ok)
  ]

  all_characters : (cs : List ℕ) → scalars cs ≡ true → IsUtf8 (escaped quote (encodes cs))
  all_characters [] e = IsUtf8-nil
  all_characters (c ∷ cs) e =
      let h = and_parts _ _ e in
      subst IsUtf8 (sym (escaped-append quote (encode c) (encodes cs)))
      (IsUtf8-append _ _ (one_character c h.0) (all_characters cs h.1))

  pub utf8_escaped : (s : List ℕ) → IsUtf8 s → IsUtf8 (escaped quote s)
  utf8_escaped s u = subst (λ x. IsUtf8 (escaped quote x)) u.1.1 (all_characters u.0 u.1.0)

  -- ---- what it stands for

  only_is : (b : ℕ) (s : List ℕ) → is_only b s ≡ true → s ≡ b ∷ []
  only_is b [] e = cc
  only_is b (c ∷ []) e = ap (λ x. x ∷ []) (eqb-true c b (and_parts (eqb c b) true e).0)
  only_is b (c ∷ d ∷ s) e = cc ((and_parts (eqb c b) false e).1)

  empty_is : (s : List ℕ) → is_empty s ≡ true → s ≡ []
  empty_is [] e = refl
  empty_is (c ∷ s) e = cc

  item_is : (b : ℕ) (o : Result (List ℕ × List ℕ) TextKind) → is_item b o ≡ true → o ≡ Ok (b ∷ [], [])
  item_is b (Err k) e = cc
  item_is b (Ok x) e =
      let h = and_parts _ _ e in
      let s : x.0 ≡ b ∷ [] = only_is b x.0 h.0 in
      let m : x.1 ≡ [] = empty_is x.1 h.1 in
      λ i. Ok (s i, m i)

  -- a byte is read back from its escape, whatever follows
  item_back : (b : ℕ) (r : List ℕ) → text_item quote (escape quote b ++ r) ≡ Ok (b ∷ [], r)
  unfolding text_item
  item_back b r = elim (cases_lt b 128) [
    | inl small ↦
        let read : text_item quote (escape quote b) ≡ Ok (b ∷ [], []) = item_is b _ (low_parts b small).0 in
        let h = rw read at (text_item_reader quote q.ascii (escape quote b)) in
        let same : escape quote b ≡ h.0 = h.1 ∙ append-nil h.0 in
        subst (λ x. text_item quote (x ++ r) ≡ Ok (b ∷ [], r)) (sym same) (h.2 r)
    | inr big ↦ rw (high_plain b big, ne_eqb b 92 (λ e. omega arith), ne_eqb b quote (λ e. omega (arith, q.ascii)))
  ]

  more_items : (front rest t s : List ℕ) (k : ℕ) → ((r : List ℕ) → text_item quote (front ++ r) ≡ Ok (t, r))
      → items_value (text_item quote) k rest ≡ Ok s → items_value (text_item quote) (suc k) (front ++ rest) ≡ Ok
      (t ++ s)
  more_items [] rest t s k f e = cc (f [], nothing quote)
  more_items (c ∷ front) rest t s k f e = rw (f rest, e)

  one_at_least : (b : ℕ) → 0 < length (escape quote b)
  one_at_least b = by (escape quote b) (λ r. item_back b r)
    where
      by : (front : List ℕ) → ((r : List ℕ) → text_item quote (front ++ r) ≡ Ok (b ∷ [], r)) → 0 < length front
      by [] f = cc (f [], nothing quote)
      by (c ∷ front) f = omega arith

  items_back : (s : List ℕ) (k : ℕ) → length (escaped quote s) ≤ k
      → items_value (text_item quote) k (escaped quote s) ≡ Ok s
  items_back [] zero l = refl
  items_back [] (suc k) l = refl
  items_back (b ∷ bs) zero l = absurd (omega (arith, length-append (escape quote b) (escaped quote bs), one_at_least b))
  items_back (b ∷ bs) (suc k) l =
      more_items (escape quote b) (escaped quote bs) (b ∷ []) bs k (item_back b)
      (items_back bs k (omega (arith, length-append (escape quote b) (escaped quote bs), one_at_least b)))

  pub unescaped-escaped : (s : List ℕ) → unescaped quote (escaped quote s) ≡ Some s
  unescaped-escaped s = ap result_ok (items_back s (length (escaped quote s)) (omega arith))
