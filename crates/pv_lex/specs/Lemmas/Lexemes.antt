-- Tokens are read as they stand, and stand as they are read; and so do the faults of tokens.
use Rattle.std.proofs.Common.{◌≡◌, ◌≢◌, ℕ, eqb, Bool, true, false, ◌||◌, ℤ, List, [], ◌∷◌, ◌++◌, length, Some, None, Ok}
use Rattle.std.proofs.Common.{Err, refl, sym, ap, ◌∙◌}
use Rattle.std.specs.Str.{IsUtf8}
use Rattle.std.proofs.lemmas.Bool.{ne_eqb, and_parts}
use Rattle.pv_value.specs.Plain.{Plain, boolean, double, integer, string, byte_string, symbol}
use Rattle.pv_read.specs.Results.{◌>>=◌}
use Rattle.pv_read.specs.Lemmas.Binds.{told_ok, told_err}
use Rattle.pv_lex.specs.Characters.{is_bare, all_of, ends_bare}
use Rattle.pv_lex.specs.Numbers.{is_integer_text, is_decimal_double, integer_of}
use Rattle.pv_lex.specs.Escapes.{unescaped}
use Rattle.pv_lex.specs.ByteTexts.{hex_bytes, base64_bytes, double_bits, may_stand_in_hex, may_stand_in_base64}
use Rattle.pv_lex.specs.Gaps.{after_blank}
use Rattle.pv_lex.specs.Marks.{mark_text}
use Rattle.pv_lex.specs.Atoms.{IsAtomOf, IsAtom}
use Rattle.pv_lex.specs.TokenFaults.{IsNoText, BareFault, IsBareToken, is_mark, goes_on, begins_token, TokenFault}
use Rattle.pv_lex.specs.TokenFaults.{in_string, in_symbol, no_string, no_symbol, in_ascii, in_hex, in_base64, in_double}
use Rattle.pv_lex.specs.TokenFaults.{in_bare, hash_alone, hex_alone, double_alone, other_hash, other_hex, other_double}
use Rattle.pv_lex.specs.TokenFaults.{other}
use Rattle.pv_lex.specs.Lexing.{bare_atom, bare_at, string_at, symbol_at, ascii_at, hex_at, base64_at, double_at}
use Rattle.pv_lex.specs.Lexing.{double_mark_at, hex_mark_at, hash_at, long_at, lexeme_at}
use Rattle.pv_lex.specs.Lemmas.Texts.{utf8_good, utf8_bad}
use Rattle.pv_lex.specs.Lemmas.Runs.{run_is}
use Rattle.pv_lex.specs.Lemmas.Numerals.{integer_parts, integer_some, decimal_some, wide_none, no_integer}
use Rattle.pv_lex.specs.Lemmas.QuotedLaws.{content_read, content_spoiled}
use Rattle.pv_lex.specs.Lemmas.EnclosedLaws.{digits_read, digits_faulty, hex_stand, base64_stand, digits_of}
use Rattle.pv_lex.specs.Lemmas.Begins.{apart, clear}
use Rattle.pv_lex.specs.Lemmas.Found.{Found, Faulty, closes, lexeme_told}
use Rattle.pv_lex.specs.declared.runs.Quotes.TheVariants as quotes
use Rattle.pv_lex.specs.declared.kinds.Mark.{Mark}
use Rattle.pv_lex.specs.declared.kinds.Mark.TheVariants as mark
use Rattle.pv_lex.specs.declared.kinds.AtomForm.{AtomForm}
use Rattle.pv_lex.specs.declared.kinds.AtomForm.TheVariants as form
use Rattle.pv_lex.specs.declared.kinds.Lexeme.{Lexeme}
use Rattle.pv_lex.specs.declared.kinds.Lexeme.TheVariants as lexeme
use Rattle.pv_lex.specs.declared.faults.TextKind.{TextKind}
use Rattle.pv_lex.specs.declared.faults.TextKind.TheVariants as fault

-- ---- by the first characters

hash_first : (bs : List ℕ) → lexeme_at (35 ∷ bs) ≡ hash_at bs
unfolding lexeme_at long_at
hash_first bs = refl

hex_first : (bs : List ℕ) → lexeme_at (35 ∷ 120 ∷ bs) ≡ hex_mark_at bs
unfolding lexeme_at long_at hash_at
hex_first bs = refl

double_first : (bs : List ℕ) → lexeme_at (35 ∷ 120 ∷ 100 ∷ bs) ≡ double_mark_at bs
unfolding lexeme_at long_at hash_at hex_mark_at
double_first bs = refl

bare_first : (b : ℕ) (bs : List ℕ) → is_bare b ≡ true → lexeme_at (b ∷ bs) ≡ bare_at (b ∷ bs)
unfolding lexeme_at long_at
bare_first b bs e =
    let no = λ (c : ℕ) (f : is_bare c ≡ false). apart is_bare true b c e f in
    rw (
      no 60 refl,
      no 62 refl,
      no 91 refl,
      no 93 refl,
      no 123 refl,
      no 125 refl,
      no 58 refl,
      no 44 refl,
      no 64 refl,
      no 34 refl,
      no 124 refl,
      no 35 refl,
      e,
    )

-- a bare token before its end
bare_is : (s r : List ℕ) → all_of is_bare s ≡ true → ends_bare r ≡ true → s ≢ [] → lexeme_at (s ++ r)
    ≡ (bare_atom s >>= λ a. Ok (a, r))
unfolding bare_at
bare_is [] r a e n = absurd (n refl)
bare_is (b ∷ bs) r a e n =
    bare_first b (bs ++ r) (and_parts (is_bare b) (all_of is_bare bs) a).0
    ∙ ap (λ x. bare_atom x.0 >>= λ y. Ok (y, x.1)) (run_is is_bare (b ∷ bs) r a e)

-- ---- atoms are read

text_read : (s u r : List ℕ) → IsUtf8 s → unescaped 34 u ≡ Some s → lexeme_at (34 ∷ (u ++ 34 ∷ r))
    ≡ Ok (lexeme.Atom form.String (string s), r)
unfolding lexeme_at long_at string_at
text_read s u r h e = rw (content_read quotes.String u s r e, utf8_good s h)

symbol_read : (s u r : List ℕ) → IsUtf8 s → unescaped 124 u ≡ Some s
    → lexeme_at (124 ∷ (u ++ 124 ∷ r)) ≡ Ok (lexeme.Atom form.QuotedSymbol (symbol s), r)
unfolding lexeme_at long_at symbol_at
symbol_read s u r h e = rw (content_read quotes.Symbol u s r e, utf8_good s h)

integer_kind : (t : List ℕ) (z : ℤ) → is_integer_text t ≡ true → integer_of t ≡ Some z → bare_atom t
    ≡ Ok (lexeme.Atom form.Integer (integer z))
unfolding bare_atom
integer_kind t z i e = rw (i, e)

symbol_kind : (s : List ℕ) → is_integer_text s ≡ false → is_decimal_double s ≡ false → IsUtf8 s → bare_atom s
    ≡ Ok (lexeme.Atom form.Symbol (symbol s))
unfolding bare_atom
symbol_kind s i d u = rw (i, d, utf8_good s u)

-- such an atom is read so
abbrev Reads : AtomForm → List ℕ → Plain → List ℕ → Type 0
Reads f t v r = lexeme_at (t ++ r) ≡ Ok (lexeme.Atom f v, r)

-- what is read with the rest behind a close
at_close : (f : AtomForm) (v : Plain) (front u r t : List ℕ) (c : ℕ) → t ≡ front ++ (u ++ c ∷ [])
    → lexeme_at (front ++ (u ++ c ∷ r)) ≡ Ok (lexeme.Atom f v, r) → Reads f t v r
at_close f v front u r t c is e = ap (λ x. lexeme_at (x ++ r)) is ∙ ap lexeme_at (sym (closes front u r c)) ∙ e

false_read : (r : List ℕ) → Reads form.False (35 ∷ 102 ∷ []) (boolean false) r
unfolding lexeme_at long_at hash_at
false_read r = refl

true_read : (r : List ℕ) → Reads form.True (35 ∷ 116 ∷ []) (boolean true) r
unfolding lexeme_at long_at hash_at
true_read r = refl

pub atom_of_read : (f : AtomForm) (t : List ℕ) (v : Plain) (r : List ℕ) → IsAtomOf f t v r → Reads f t v r
unfolding lexeme_at long_at hash_at ascii_at hex_mark_at hex_at double_mark_at double_at base64_at
atom_of_read form.False t (boolean false) r h = ap (λ x. lexeme_at (x ++ r)) h ∙ false_read r
atom_of_read form.True t (boolean true) r h = ap (λ x. lexeme_at (x ++ r)) h ∙ true_read r
atom_of_read form.Integer t (integer z) r h =
    let i = (integer_parts t z h.1).0 in
    bare_is t r h.0 h.2 (integer_some t i) ∙ ap (λ x. x >>= λ a. Ok (a, r)) (integer_kind t z i h.1)
atom_of_read form.Symbol t (symbol s) r h =
    ap (λ x. lexeme_at (x ++ r)) h.1 ∙ bare_is s r h.2.0 h.3 (λ n. h.2.1 (ap length n))
    ∙ ap (λ x. x >>= λ a. Ok (a, r)) (symbol_kind s h.2.2 h.2.3 h.0)
atom_of_read form.QuotedSymbol t (symbol s) r h =
    at_close form.QuotedSymbol (symbol s) (124 ∷ []) h.1.0 r t 124 h.1.1 (symbol_read s h.1.0 r h.0 h.1.2)
atom_of_read form.String t (string s) r h =
    at_close form.String (string s) (34 ∷ []) h.1.0 r t 34 h.1.1 (text_read s h.1.0 r h.0 h.1.2)
atom_of_read form.AsciiBytes t (byte_string s) r h =
    at_close form.AsciiBytes (byte_string s) (35 ∷ 34 ∷ []) h.0 r t 34 h.1 (rw (content_read quotes.Ascii h.0 s r h.2))
atom_of_read form.HexBytes t (byte_string s) r h =
    at_close form.HexBytes (byte_string s) (35 ∷ 120 ∷ 34 ∷ []) h.0 r t 34 h.1
    (rw (digits_read may_stand_in_hex 34 hex_bytes refl h.0 r s (hex_stand None h.0 s h.2) h.2))
atom_of_read form.Base64Bytes t (byte_string s) r h =
    at_close form.Base64Bytes (byte_string s) (35 ∷ 91 ∷ []) h.0 r t 93 h.1
    (rw (digits_read may_stand_in_base64 93 base64_bytes refl h.0 r s (base64_stand 0 0 h.0 s h.2) h.2))
atom_of_read form.Double t (double n) r h =
    let d = digits_of h.0 n h.2 in
    at_close form.Double (double n) (35 ∷ 120 ∷ 100 ∷ 34 ∷ []) h.0 r t 34 h.1
    (rw (digits_read may_stand_in_hex 34 double_bits refl h.0 r n (hex_stand None h.0 d.0 d.1) h.2))
atom_of_read f t v r h = absurd h

pub atom_some : (f : AtomForm) (t : List ℕ) (v : Plain) (r : List ℕ) → IsAtomOf f t v r → t ≢ []
atom_some form.False t (boolean false) r h = λ e. cc
atom_some form.True t (boolean true) r h = λ e. cc
atom_some form.Integer t (integer z) r h = integer_some t (integer_parts t z h.1).0
atom_some form.Symbol t (symbol s) r h = λ e. h.2.1 (ap length (sym h.1 ∙ e))
atom_some form.QuotedSymbol t (symbol s) r h = λ e. let w = h.1.1 in cc
atom_some form.String t (string s) r h = λ e. let w = h.1.1 in cc
atom_some form.AsciiBytes t (byte_string s) r h = λ e. let w = h.1 in cc
atom_some form.HexBytes t (byte_string s) r h = λ e. let w = h.1 in cc
atom_some form.Base64Bytes t (byte_string s) r h = λ e. let w = h.1 in cc
atom_some form.Double t (double n) r h = λ e. let w = h.1 in cc
atom_some f t v r h = absurd h

pub atom_read : (t : List ℕ) (v : Plain) (r : List ℕ) → IsAtom t v r → (f : AtomForm)
    × (lexeme_at (t ++ r) ≡ Ok (lexeme.Atom f v, r))
atom_read t v r h = (h.0, atom_of_read h.0 t v r h.1)

-- ---- marks are read

pub mark_read : (m : Mark) (r : List ℕ) → lexeme_at (mark_text m ++ r) ≡ Ok (lexeme.Mark m, r)
unfolding lexeme_at long_at hash_at
mark_read mark.RecordOpen r = refl
mark_read mark.RecordClose r = refl
mark_read mark.SequenceOpen r = refl
mark_read mark.SequenceClose r = refl
mark_read mark.SetOpen r = refl
mark_read mark.DictionaryOpen r = refl
mark_read mark.BraceClose r = refl
mark_read mark.Colon r = refl
mark_read mark.Comma r = refl
mark_read mark.Annotation r = refl
mark_read mark.Embedded r = refl

-- ---- faults are read

hash_other : (b : ℕ) (bs : List ℕ) → goes_on b ≡ false → hash_at (b ∷ bs) ≡ Err fault.Unexpected
unfolding hash_at
hash_other b bs g =
    let no = λ (c : ℕ) (f : goes_on c ≡ true). apart goes_on false b c g f in
    rw (no 116 refl, no 102 refl, no 123 refl, no 58 refl, no 34 refl, no 120 refl, no 91 refl)

no_bare : (b : ℕ) → begins_token b ≡ false → is_bare b ≡ false
no_bare b e = by (is_mark b) (is_bare b) (eqb b 34) (eqb b 124) (eqb b 35) e
  where
    by : (p q r s t : Bool) → (p || q || r || s || t) ≡ false → q ≡ false
    by true q r s t e = cc
    by false true r s t e = cc
    by false false r s t e = refl

other_read : (b : ℕ) (bs : List ℕ) → begins_token b ≡ false → lexeme_at (b ∷ bs) ≡ Err fault.Unexpected
unfolding lexeme_at long_at
other_read b bs e =
    let no = λ (c : ℕ) (f : begins_token c ≡ true). apart begins_token false b c e f in
    rw (
      no 60 refl,
      no 62 refl,
      no 91 refl,
      no 93 refl,
      no 123 refl,
      no 125 refl,
      no 58 refl,
      no 44 refl,
      no 64 refl,
      no 34 refl,
      no 124 refl,
      no 35 refl,
      no_bare b e,
    )

no_text_read : (bytes : List ℕ) → IsNoText 34 bytes → lexeme_at (34 ∷ bytes) ≡ Err fault.BadUtf8
unfolding lexeme_at long_at string_at
no_text_read bytes (s, r, u, is, e, n) = rw (is, content_read quotes.String s u r e, utf8_bad u n)

no_symbol_read : (bytes : List ℕ) → IsNoText 124 bytes → lexeme_at (124 ∷ bytes) ≡ Err fault.BadUtf8
unfolding lexeme_at long_at symbol_at
no_symbol_read bytes (s, r, u, is, e, n) = rw (is, content_read quotes.Symbol s u r e, utf8_bad u n)

-- a bare token that is none
bare_fails : (Is : List ℕ → Type 0) (bytes : List ℕ) (k : TextKind) (h : IsBareToken Is bytes) → h.0 ≢ []
    → bare_atom h.0 ≡ Err k
    → lexeme_at bytes ≡ Err k
bare_fails Is bytes k h n e = ap lexeme_at h.2 ∙ bare_is h.0 h.1 h.3 h.4 n ∙ ap (λ x. x >>= λ a. Ok (a, h.1)) e

bare_read : (bytes : List ℕ) (k : TextKind) → BareFault bytes k → lexeme_at bytes ≡ Err k
unfolding bare_atom
bare_read bytes fault.TooWide h =
    bare_fails _ bytes fault.TooWide h (integer_some h.0 h.5.0) (rw (h.5.0, wide_none h.0 h.5.1))
bare_read bytes fault.DecimalDouble h =
    bare_fails _ bytes fault.DecimalDouble h (decimal_some h.0 h.5) (rw (no_integer h.0 h.5, h.5))
bare_read bytes fault.BadUtf8 h = bare_fails _ bytes fault.BadUtf8 h h.5.0 (rw (h.5.1, h.5.2, utf8_bad h.0 h.5.3))
bare_read bytes k h = absurd h

pub fault_read : (bytes : List ℕ) (k : TextKind) → TokenFault bytes k → lexeme_at bytes ≡ Err k
unfolding lexeme_at long_at string_at symbol_at hash_at ascii_at hex_mark_at hex_at double_mark_at double_at base64_at
fault_read _ _ (in_string bytes k (s, t, u, is, e, bad)) = rw (is, content_spoiled quotes.String s u t k e bad)
fault_read _ _ (in_symbol bytes k (s, t, u, is, e, bad)) = rw (is, content_spoiled quotes.Symbol s u t k e bad)
fault_read _ _ (no_string bytes h) = no_text_read bytes h
fault_read _ _ (no_symbol bytes h) = no_symbol_read bytes h
fault_read _ _ (in_ascii bytes k (s, t, u, is, e, bad)) = rw (is, content_spoiled quotes.Ascii s u t k e bad)
fault_read _ _ (in_hex bytes k h) = rw (digits_faulty may_stand_in_hex 34 hex_bytes refl bytes k h)
fault_read _ _ (in_base64 bytes k h) = rw (digits_faulty may_stand_in_base64 93 base64_bytes refl bytes k h)
fault_read _ _ (in_double bytes k h) = rw (digits_faulty may_stand_in_hex 34 double_bits refl bytes k h)
fault_read _ _ (in_bare bytes k h) = bare_read bytes k h
fault_read _ _ hash_alone = refl
fault_read _ _ hex_alone = refl
fault_read _ _ double_alone = refl
fault_read _ _ (other_hash b bytes g c) = hash_first (b ∷ bytes) ∙ hash_other b bytes g
fault_read _ _ (other_hex b bytes d e) = hex_first (b ∷ bytes) ∙ rw (ne_eqb b 34 d, ne_eqb b 100 e)
fault_read _ _ (other_double b bytes d) = double_first (b ∷ bytes) ∙ rw (ne_eqb b 34 d)
fault_read _ _ (other b bytes t s) = other_read b bytes t

-- ---- and so they stand

pub lexeme_found : (bytes : List ℕ) (x : Lexeme) (r : List ℕ) → lexeme_at bytes ≡ Ok (x, r) → Found bytes (x, r)
unfolding lexeme_at
lexeme_found [] x r e = cc
lexeme_found (b ∷ bs) x r e =
    told_ok (Found (b ∷ bs)) (Faulty (b ∷ bs)) (lexeme_at (b ∷ bs)) (x, r) (lexeme_told b bs) e

pub atom_of_found : (bytes : List ℕ) (f : AtomForm) (v : Plain) (r : List ℕ)
    → lexeme_at bytes ≡ Ok (lexeme.Atom f v, r) → (t : List ℕ) × (bytes ≡ t ++ r) × IsAtomOf f t v r
atom_of_found bytes f v r e = let h = lexeme_found bytes (lexeme.Atom f v) r e in (h.0, h.1, h.2)

pub atom_found : (bytes : List ℕ) (f : AtomForm) (v : Plain) (r : List ℕ) → lexeme_at bytes ≡ Ok (lexeme.Atom f v, r)
    → (t : List ℕ) × (bytes ≡ t ++ r) × IsAtom t v r
atom_found bytes f v r e = let h = atom_of_found bytes f v r e in (h.0, h.1, (f, h.2))

pub mark_found : (bytes : List ℕ) (m : Mark) (r : List ℕ) → lexeme_at bytes ≡ Ok (lexeme.Mark m, r) → bytes
    ≡ mark_text m ++ r
mark_found bytes m r e = let h = lexeme_found bytes (lexeme.Mark m) r e in h.1 ∙ ap (λ x. x ++ r) h.2

pub fault_found : (commas : Bool) (b : ℕ) (bs : List ℕ) (k : TextKind) → after_blank commas (b ∷ bs) ≡ b ∷ bs
    → lexeme_at (b ∷ bs) ≡ Err k → TokenFault (b ∷ bs) k
fault_found commas b bs k a e =
    told_err (Found (b ∷ bs)) (Faulty (b ∷ bs)) (lexeme_at (b ∷ bs)) k (lexeme_told b bs) e (clear commas b bs a)
