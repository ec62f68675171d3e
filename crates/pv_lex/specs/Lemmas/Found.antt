-- What is told of the bytes by what is read of them: the token that stands first, or what is wrong with it.
use Rattle.std.proofs.Common.{◌≡◌, ℕ, eqb, Bool, true, false, cond, List, [], ◌∷◌, ◌++◌, length, Option, Some, None, ℤ}
use Rattle.std.proofs.Common.{Result, Ok, Err, refl, sym, ap, ◌∙◌, subst, append_assoc, inl, inr, ◌⊎◌, arith}
use Rattle.std.specs.Prelude.{ok_or}
use Rattle.std.specs.Str.{IsUtf8}
use Rattle.std.proofs.lemmas.Bool.{eqb-false}
use Rattle.pv_value.specs.Plain.{Plain, boolean, double, integer, string, byte_string, symbol}
use Rattle.pv_read.specs.Results.{◌>>=◌}
use Rattle.pv_read.specs.Lemmas.Binds.{Told, told_cond, told_first}
use Rattle.pv_lex.specs.Characters.{is_bare, all_of, ends_bare, run}
use Rattle.pv_lex.specs.Numbers.{is_integer_text, is_decimal_double, integer_of}
use Rattle.pv_lex.specs.ByteTexts.{hex_bytes, base64_bytes, double_bits, may_stand_in_hex, may_stand_in_base64}
use Rattle.pv_lex.specs.Classes.{content_at}
use Rattle.pv_lex.specs.Marks.{mark_text}
use Rattle.pv_lex.specs.Atoms.{IsAtomOf}
use Rattle.pv_lex.specs.TokenFaults.{TokenFault, in_string, in_symbol, no_string, no_symbol, in_ascii, in_hex}
use Rattle.pv_lex.specs.TokenFaults.{in_base64, in_double, in_bare, hash_alone, hex_alone, double_alone, other_hash}
use Rattle.pv_lex.specs.TokenFaults.{other_hex, other_double, other}
use Rattle.pv_lex.specs.Lexing.{marked, made, as_text, text_at, bare_atom, bare_at, string_at, symbol_at, ascii_at}
use Rattle.pv_lex.specs.Lexing.{hex_at, base64_at, double_at, double_mark_at, hex_mark_at, hash_at, long_at, lexeme_at}
use Rattle.pv_lex.specs.Lemmas.Texts.{utf8_cases}
use Rattle.pv_lex.specs.Lemmas.Runs.{run_first, run_parts}
use Rattle.pv_lex.specs.Lemmas.Numerals.{wide_is}
use Rattle.pv_lex.specs.Lemmas.QuotedLaws.{Stands, Spoiled, content_told}
use Rattle.pv_lex.specs.Lemmas.EnclosedLaws as enclosed
use Rattle.pv_lex.specs.Lemmas.Begins.{IsClear}
use Rattle.pv_lex.specs.declared.runs.Quotes.{Quotes}
use Rattle.pv_lex.specs.declared.runs.Quotes.TheVariants as quotes
use Rattle.pv_lex.specs.declared.kinds.Mark.{Mark}
use Rattle.pv_lex.specs.declared.kinds.Mark.TheVariants as mark
use Rattle.pv_lex.specs.declared.kinds.AtomForm.{AtomForm}
use Rattle.pv_lex.specs.declared.kinds.AtomForm.TheVariants as form
use Rattle.pv_lex.specs.declared.kinds.Lexeme.{Lexeme}
use Rattle.pv_lex.specs.declared.kinds.Lexeme.TheVariants as lexeme
use Rattle.pv_lex.specs.declared.faults.TextKind.{TextKind}
use Rattle.pv_lex.specs.declared.faults.TextKind.TheVariants as fault

-- the text, before the rest, is this token
abbrev pub IsLexeme : Lexeme → List ℕ → List ℕ → Type 0
IsLexeme (lexeme.Mark m) t r = t ≡ mark_text m
IsLexeme (lexeme.Atom f v) t r = IsAtomOf f t v r

abbrev pub Found : List ℕ → Lexeme × List ℕ → Type 0
Found bytes x = (t : List ℕ) × (bytes ≡ t ++ x.1) × IsLexeme x.0 t x.1

abbrev pub Faulty : List ℕ → TextKind → Type 0
Faulty bytes k = IsClear bytes → TokenFault bytes k

abbrev pub Read : Type 0
Read = Result (Lexeme × List ℕ) TextKind

abbrev pub TokenTold : List ℕ → Read → Type 0
TokenTold bytes o = Told (Found bytes) (Faulty bytes) o

pub closes : (front s rest : List ℕ) (c : ℕ) → front ++ (s ++ c ∷ rest) ≡ (front ++ (s ++ c ∷ [])) ++ rest
closes front s rest c =
    ap (λ x. front ++ x) (sym (append_assoc s (c ∷ []) rest)) ∙ sym (append_assoc front (s ++ c ∷ []) rest)

-- what is told of a content is told of the atom that is made of it
made_told : {A : Type 0} (bytes : List ℕ) (f : AtomForm) (make : A → Plain) (P : A × List ℕ → Type 0)
    (Q : TextKind → Type 0)
    (o : Result (A × List ℕ) TextKind) → Told P Q o
    → ((x : A × List ℕ) → P x → Found bytes (lexeme.Atom f (make x.0), x.1))
    → ((k : TextKind) → Q k → TokenFault bytes k) → TokenTold bytes (made f make o)
made_told bytes f make P Q (Ok x) h good bad = good x h
made_told bytes f make P Q (Err k) h good bad = λ c. bad k h

-- ---- quoted tokens

abbrev IsText : Quotes → List ℕ → List ℕ × List ℕ → Type 0
IsText q bytes x = Stands q bytes x × IsUtf8 x.0

abbrev NoText : Quotes → List ℕ → TextKind → Type 0
NoText q bytes k =
    Spoiled q bytes k ⊎ ((k ≡ fault.BadUtf8) × (x : List ℕ × List ℕ) × Stands q bytes x × (IsUtf8 x.0 → ⊥))

text_told : (q : Quotes) (bytes : List ℕ) → Told (IsText q bytes) (NoText q bytes) (text_at q bytes)
text_told q bytes = by (content_at q bytes) (content_told q bytes)
  where
    by : (o : Result (List ℕ × List ℕ) TextKind) → Told (Stands q bytes) (Spoiled q bytes) o
        → Told (IsText q bytes) (NoText q bytes) (o >>= λ x. as_text x.0 >>= λ s. Ok (s, x.1))
    by (Err k) h = inl h
    by (Ok x) h = elim (utf8_cases x.0) [ inl u ↦ rw u.1 (h, u.0) | inr u ↦ rw u.1 (inr (refl, x, h, u.0)) ]

string_told : (bs : List ℕ) → TokenTold (34 ∷ bs) (string_at bs)
unfolding string_at
string_told bs = made_told (34 ∷ bs) form.String string _ _ _ (text_told quotes.String bs)
    (λ x h. (
      34 ∷ (h.0.0 ++ 34 ∷ []),
      ap (λ y. 34 ∷ y) h.0.1
          ∙ closes (34 ∷ []) h.0.0 x.1 34,
      (h.1, (h.0.0, refl, h.0.2)),
    ))
    (λ k h. elim h [
      | inl s ↦ in_string bs k s
      | inr n ↦ subst (TokenFault (34 ∷ bs)) (sym n.0) (no_string bs (n.2.0, n.1.1, n.1.0, n.2.1, n.2.2, n.3))
    ])

symbol_told : (bs : List ℕ) → TokenTold (124 ∷ bs) (symbol_at bs)
unfolding symbol_at
symbol_told bs = made_told (124 ∷ bs) form.QuotedSymbol symbol _ _ _ (text_told quotes.Symbol bs)
    (λ x h. (
      124 ∷ (h.0.0 ++ 124 ∷ []),
      ap (λ y. 124 ∷ y) h.0.1
          ∙ closes (124 ∷ []) h.0.0 x.1 124,
      (h.1, (h.0.0, refl, h.0.2)),
    ))
    (λ k h. elim h [
      | inl s ↦ in_symbol bs k s
      | inr n ↦ subst (TokenFault (124 ∷ bs)) (sym n.0) (no_symbol bs (n.2.0, n.1.1, n.1.0, n.2.1, n.2.2, n.3))
    ])

ascii_told : (bs : List ℕ) → TokenTold (35 ∷ 34 ∷ bs) (ascii_at bs)
unfolding ascii_at
ascii_told bs = made_told (35 ∷ 34 ∷ bs) form.AsciiBytes byte_string _ _ _ (content_told quotes.Ascii bs)
    (λ x h. (
      35 ∷ 34 ∷ (h.0 ++ 34 ∷ []),
      ap (λ y. 35 ∷ 34 ∷ y) h.1
          ∙ closes (35 ∷ 34 ∷ []) h.0 x.1 34,
      (h.0, refl, h.2),
    ))
    (λ k h. in_ascii bs k h)

-- ---- byte strings and doubles in digits

hex_told : (bs : List ℕ) → TokenTold (35 ∷ 120 ∷ 34 ∷ bs) (hex_at bs)
unfolding hex_at
hex_told bs =
    made_told (35 ∷ 120 ∷ 34 ∷ bs) form.HexBytes byte_string _ _ _
    (enclosed.digits_told may_stand_in_hex 34 hex_bytes bs)
    (λ x h. (
      35 ∷ 120 ∷ 34 ∷ (h.0 ++ 34 ∷ []),
      ap (λ y. 35 ∷ 120 ∷ 34 ∷ y) h.1
          ∙ closes (35 ∷ 120 ∷ 34 ∷ []) h.0 x.1 34,
      (h.0, refl, h.2),
    ))
    (λ k h. in_hex bs k h)

base64_told : (bs : List ℕ) → TokenTold (35 ∷ 91 ∷ bs) (base64_at bs)
unfolding base64_at
base64_told bs =
    made_told (35 ∷ 91 ∷ bs) form.Base64Bytes byte_string _ _ _
    (enclosed.digits_told may_stand_in_base64 93 base64_bytes bs)
    (λ x h. (
      35 ∷ 91 ∷ (h.0 ++ 93 ∷ []),
      ap (λ y. 35 ∷ 91 ∷ y) h.1
          ∙ closes (35 ∷ 91 ∷ []) h.0 x.1 93,
      (h.0, refl, h.2),
    ))
    (λ k h. in_base64 bs k h)

double_told : (bs : List ℕ) → TokenTold (35 ∷ 120 ∷ 100 ∷ 34 ∷ bs) (double_at bs)
unfolding double_at
double_told bs =
    made_told (35 ∷ 120 ∷ 100 ∷ 34 ∷ bs) form.Double double _ _ _
    (enclosed.digits_told may_stand_in_hex 34 double_bits bs)
    (λ x h. (
      35 ∷ 120 ∷ 100 ∷ 34 ∷ (h.0 ++ 34 ∷ []),
      ap (λ y. 35 ∷ 120 ∷ 100 ∷ 34 ∷ y) h.1
          ∙ closes (35 ∷ 120 ∷ 100 ∷ 34 ∷ []) h.0 x.1 34,
      (h.0, refl, h.2),
    ))
    (λ k h. in_double bs k h)

-- ---- bare tokens

bare_atom_told : (s r : List ℕ) → all_of is_bare s ≡ true → ends_bare r ≡ true → (length s ≡ 0 → ⊥)
    → TokenTold (s ++ r) (bare_atom s >>= λ a. Ok (a, r))
unfolding bare_atom
bare_atom_told s r all ends some = by (is_integer_text s) (is_decimal_double s) refl refl
  where
    by_integer : is_integer_text s ≡ true → (o : Option ℤ) → integer_of s ≡ o
        → TokenTold (s ++ r) ((ok_or o fault.TooWide >>= λ z. Ok (lexeme.Atom form.Integer (integer z))) >>= λ a. Ok
        (a, r))
    by_integer i None e = λ c. in_bare (s ++ r) fault.TooWide (s, r, refl, all, ends, (i, wide_is s i e))
    by_integer i (Some z) e = (s, refl, (all, e, ends))

    by_text : is_integer_text s ≡ false → is_decimal_double s ≡ false
        → TokenTold (s ++ r) ((as_text s >>= λ t. Ok (lexeme.Atom form.Symbol (symbol t))) >>= λ a. Ok (a, r))
    by_text i d = elim (utf8_cases s) [
      | inl u ↦ rw u.1 (s, refl, (u.0, refl, (all, some, i, d), ends))
      | inr u ↦ rw u.1 (λ c. in_bare (s ++ r) fault.BadUtf8
          (s, r, refl, all, ends, ((λ n. some (ap length n)), i, d, u.0)))
    ]

    by : (i d : Bool) → is_integer_text s ≡ i → is_decimal_double s ≡ d
        → TokenTold (s ++ r) (cond i (ok_or (integer_of s) fault.TooWide >>= λ z. Ok
        (lexeme.Atom form.Integer (integer z)))
        (cond d (Err fault.DecimalDouble) (as_text s >>= λ t. Ok (lexeme.Atom form.Symbol (symbol t)))) >>= λ a. Ok
        (a, r))
    by true d e f = by_integer e (integer_of s) refl
    by false true e f = λ c. in_bare (s ++ r) fault.DecimalDouble (s, r, refl, all, ends, f)
    by false false e f = by_text e f

bare_told : (b : ℕ) (bs : List ℕ) → is_bare b ≡ true → TokenTold (b ∷ bs) (bare_at (b ∷ bs))
unfolding bare_at
bare_told b bs e =
    let x = run is_bare (b ∷ bs) in
    let p = run_parts is_bare (b ∷ bs) in
    let first = ap (λ y. length y.0) (run_first is_bare b bs e) in
    subst (λ y. TokenTold y (bare_atom x.0 >>= λ a. Ok (a, x.1))) (sym p.0)
    (bare_atom_told x.0 x.1 p.1 p.2 (λ n. absurd (omega (arith, first, n))))

-- ---- behind a #

double_mark_told : (bs : List ℕ) → TokenTold (35 ∷ 120 ∷ 100 ∷ bs) (double_mark_at bs)
unfolding double_mark_at
double_mark_told [] = λ c. double_alone
double_mark_told (b ∷ bs) =
    told_cond (Found (35 ∷ 120 ∷ 100 ∷ b ∷ bs)) (Faulty (35 ∷ 120 ∷ 100 ∷ b ∷ bs)) (eqb b 34) (double_at bs)
    (Err fault.Unexpected)
    (λ e. told_first (λ x. Found (35 ∷ 120 ∷ 100 ∷ x)) (λ x. Faulty (35 ∷ 120 ∷ 100 ∷ x)) b 34 bs (double_at bs) e
    (double_told bs))
    (λ e. λ c. other_double b bs (eqb-false b 34 e))

hex_mark_told : (bs : List ℕ) → TokenTold (35 ∷ 120 ∷ bs) (hex_mark_at bs)
unfolding hex_mark_at
hex_mark_told [] = λ c. hex_alone
hex_mark_told (b ∷ bs) =
    let P = Found (35 ∷ 120 ∷ b ∷ bs) in
    let Q = Faulty (35 ∷ 120 ∷ b ∷ bs) in
    let first = told_first (λ x. Found (35 ∷ 120 ∷ x)) (λ x. Faulty (35 ∷ 120 ∷ x)) b in
    told_cond P Q (eqb b 34) (hex_at bs) _ (λ e. first 34 bs _ e (hex_told bs)) (λ d.
    told_cond P Q (eqb b 100) (double_mark_at bs) (Err fault.Unexpected) (λ e. first 100 bs _ e (double_mark_told bs))
    (λ e. λ c. other_hex b bs (eqb-false b 34 d) (eqb-false b 100 e)))

hash_told : (bs : List ℕ) → TokenTold (35 ∷ bs) (hash_at bs)
unfolding hash_at
hash_told [] = λ c. hash_alone
hash_told (b ∷ bs) =
    let P = Found (35 ∷ b ∷ bs) in
    let Q = Faulty (35 ∷ b ∷ bs) in
    let first = told_first (λ x. Found (35 ∷ x)) (λ x. Faulty (35 ∷ x)) b in
    told_cond P Q (eqb b 116) (Ok (lexeme.Atom form.True (boolean true), bs)) _
    (λ e. first 116 bs (Ok (lexeme.Atom form.True (boolean true), bs)) e (35 ∷ 116 ∷ [], refl, refl)) (λ e1.
    told_cond P Q (eqb b 102) (Ok (lexeme.Atom form.False (boolean false), bs)) _
    (λ e. first 102 bs (Ok (lexeme.Atom form.False (boolean false), bs)) e (35 ∷ 102 ∷ [], refl, refl)) (λ e2.
    told_cond P Q (eqb b 123) (marked mark.SetOpen bs) _
    (λ e. first 123 bs (marked mark.SetOpen bs) e (35 ∷ 123 ∷ [], refl, refl)) (λ e3.
    told_cond P Q (eqb b 58) (marked mark.Embedded bs) _
    (λ e. first 58 bs (marked mark.Embedded bs) e (35 ∷ 58 ∷ [], refl, refl)) (λ e4.
    told_cond P Q (eqb b 34) (ascii_at bs) _ (λ e. first 34 bs _ e (ascii_told bs)) (λ e5.
    told_cond P Q (eqb b 120) (hex_mark_at bs) _ (λ e. first 120 bs _ e (hex_mark_told bs)) (λ e6.
    told_cond P Q (eqb b 91) (base64_at bs) (Err fault.Unexpected) (λ e. first 91 bs _ e (base64_told bs))
    (λ e7. λ c. other_hash b bs (rw (e1, e2, e3, e4, e5, e6, e7)) (c.1 refl))))))))

-- ---- all tokens

long_told : (b : ℕ) (bs : List ℕ)
    → (eqb b 34 ≡ false → eqb b 124 ≡ false → eqb b 35 ≡ false → is_bare b ≡ false → Faulty (b ∷ bs) fault.Unexpected)
    → TokenTold (b ∷ bs) (long_at b bs)
unfolding long_at
long_told b bs rest =
    let P = Found (b ∷ bs) in
    let Q = Faulty (b ∷ bs) in
    let first = told_first Found Faulty b in
    told_cond P Q (eqb b 34) (string_at bs) _ (λ e. first 34 bs _ e (string_told bs)) (λ e1.
    told_cond P Q (eqb b 124) (symbol_at bs) _ (λ e. first 124 bs _ e (symbol_told bs)) (λ e2.
    told_cond P Q (eqb b 35) (hash_at bs) _ (λ e. first 35 bs _ e (hash_told bs)) (λ e3.
    told_cond P Q (is_bare b) (bare_at (b ∷ bs)) (Err fault.Unexpected) (λ e. bare_told b bs e)
    (λ e4. rest e1 e2 e3 e4))))

pub lexeme_told : (b : ℕ) (bs : List ℕ) → TokenTold (b ∷ bs) (lexeme_at (b ∷ bs))
unfolding lexeme_at
lexeme_told b bs =
    let either = told_cond (Found (b ∷ bs)) (Faulty (b ∷ bs)) in
    let one =
    λ (c : ℕ) (m : Mark) (is : c ∷ [] ≡ mark_text m) (e : eqb b c ≡ true). told_first Found Faulty b c bs
    (marked m bs) e (c ∷ [], refl, is) in
    either (eqb b 60) (marked mark.RecordOpen bs) _ (one 60 mark.RecordOpen refl) (λ e1.
    either (eqb b 62) (marked mark.RecordClose bs) _ (one 62 mark.RecordClose refl) (λ e2.
    either (eqb b 91) (marked mark.SequenceOpen bs) _ (one 91 mark.SequenceOpen refl) (λ e3.
    either (eqb b 93) (marked mark.SequenceClose bs) _ (one 93 mark.SequenceClose refl) (λ e4.
    either (eqb b 123) (marked mark.DictionaryOpen bs) _ (one 123 mark.DictionaryOpen refl) (λ e5.
    either (eqb b 125) (marked mark.BraceClose bs) _ (one 125 mark.BraceClose refl) (λ e6.
    either (eqb b 58) (marked mark.Colon bs) _ (one 58 mark.Colon refl) (λ e7.
    either (eqb b 44) (marked mark.Comma bs) _ (one 44 mark.Comma refl) (λ e8.
    either (eqb b 64) (marked mark.Annotation bs) (long_at b bs) (one 64 mark.Annotation refl) (λ e9.
    long_told b bs (λ a1 a2 a3 a4. λ c. other b bs
    (rw (e1, e2, e3, e4, e5, e6, e7, e8, e9, a1, a2, a3, a4)) c.0))))))))))
