-- Tokens with their contents: what the bytes behind a gap begin with, or the first fault in it. Preserves text syntax;
-- a token ends at the first character that can't go on with it.
use Rattle.std.specs.Prelude.{ℕ, zero, suc, ◌-◌, true, false, ◌==◌, List, [], ◌∷◌, length, if◌then◌else◌, Option}
use Rattle.std.specs.Prelude.{Result, Ok, Err, ok_or, IsTrue}
use Rattle.std.specs.Str.{is_utf8}
use Rattle.pv_value.specs.Plain.{Plain, boolean, double, integer, string, byte_string, symbol}
use Rattle.pv_read.specs.Results.{Fault, ◌>>=◌, within}
use Rattle.pv_lex.specs.Gaps.{after_blank}
use Rattle.pv_lex.specs.Characters.{is_bare, run}
use Rattle.pv_lex.specs.Numbers.{is_integer_text, is_decimal_double, integer_of}
use Rattle.pv_lex.specs.ByteTexts.{hex_bytes, base64_bytes, double_bits, may_stand_in_hex, may_stand_in_base64}
use Rattle.pv_lex.specs.ByteTexts.{enclosed}
use Rattle.pv_lex.specs.Classes.{content_at}
use Rattle.pv_lex.specs.declared.runs.Quotes.{Quotes}
use Rattle.pv_lex.specs.declared.runs.Quotes.TheVariants as quotes
use Rattle.pv_lex.specs.declared.kinds.Mark.{Mark}
use Rattle.pv_lex.specs.declared.kinds.Mark.TheVariants as mark
use Rattle.pv_lex.specs.declared.kinds.AtomForm.{AtomForm}
use Rattle.pv_lex.specs.declared.kinds.AtomForm.TheVariants as form
use Rattle.pv_lex.specs.declared.kinds.Lexeme.{Lexeme}
use Rattle.pv_lex.specs.declared.kinds.Lexeme.TheVariants as lexeme
use Rattle.pv_lex.specs.declared.kinds.TokenKind.{TokenKind}
use Rattle.pv_lex.specs.declared.kinds.TokenKind.TheVariants as kind
use Rattle.pv_lex.specs.declared.kinds.Token.{Token}
use Rattle.pv_lex.specs.declared.faults.TextKind.{TextKind}
use Rattle.pv_lex.specs.declared.faults.TextKind.TheVariants.{Unexpected, DecimalDouble, BadBytes, Unclosed, TooWide}
use Rattle.pv_lex.specs.declared.faults.TextKind.TheVariants.{BadUtf8}

-- a mark, and what follows it
abbrev pub marked : Mark → List ℕ → Result (Lexeme × List ℕ) TextKind
marked m rest = Ok (lexeme.Mark m, rest)

-- an atom of this form that is made of a content, and what follows it
abbrev pub made : {A : Type 0} → AtomForm → (A → Plain) → Result (A × List ℕ) TextKind
    → Result (Lexeme × List ℕ) TextKind
made f make content = content >>= λ x. Ok (lexeme.Atom f (make x.0), x.1)

-- ---- bare tokens

abbrev pub BeginsBare : List ℕ → Type 0
BeginsBare [] = ⊥
BeginsBare (b ∷ bs) = IsTrue (is_bare b)

abbrev pub as_text : List ℕ → Result (List ℕ) TextKind
as_text s = if is_utf8 s then Ok s else Err BadUtf8

unfoldable pub bare_atom : List ℕ → Result Lexeme TextKind
bare_atom s =
    if is_integer_text s then (ok_or (integer_of s) TooWide >>= λ z. Ok (lexeme.Atom form.Integer (integer z)))
    else (if is_decimal_double s then Err DecimalDouble
    else (as_text s >>= λ t. Ok (lexeme.Atom form.Symbol (symbol t))))

unfoldable pub bare_at : List ℕ → Result (Lexeme × List ℕ) TextKind
bare_at bytes = bare_atom (run is_bare bytes).0 >>= λ a. Ok (a, (run is_bare bytes).1)

-- ---- behind an opening quote

abbrev pub as_texts : Result (List ℕ × List ℕ) TextKind → Result (List ℕ × List ℕ) TextKind
as_texts content = content >>= λ x. as_text x.0 >>= λ s. Ok (s, x.1)

abbrev pub text_at : Quotes → List ℕ → Result (List ℕ × List ℕ) TextKind
text_at q bytes = as_texts (content_at q bytes)

unfoldable pub string_at : List ℕ → Result (Lexeme × List ℕ) TextKind
string_at bytes = made form.String string (text_at quotes.String bytes)

unfoldable pub symbol_at : List ℕ → Result (Lexeme × List ℕ) TextKind
symbol_at bytes = made form.QuotedSymbol symbol (text_at quotes.Symbol bytes)

unfoldable pub ascii_at : List ℕ → Result (Lexeme × List ℕ) TextKind
ascii_at bytes = made form.AsciiBytes byte_string (content_at quotes.Ascii bytes)

-- ---- byte strings and doubles, judged at the close

abbrev pub decoded : {A : Type 0} → (List ℕ → Option A) → Result (List ℕ × List ℕ) TextKind
    → Result (A × List ℕ) TextKind
decoded decode digits = digits >>= λ x. ok_or (decode x.0) BadBytes >>= λ y. Ok (y, x.1)

unfoldable pub hex_at : List ℕ → Result (Lexeme × List ℕ) TextKind
hex_at bytes = made form.HexBytes byte_string (decoded hex_bytes (enclosed may_stand_in_hex 34 bytes))

unfoldable pub double_at : List ℕ → Result (Lexeme × List ℕ) TextKind
double_at bytes = made form.Double double (decoded double_bits (enclosed may_stand_in_hex 34 bytes))

unfoldable pub base64_at : List ℕ → Result (Lexeme × List ℕ) TextKind
base64_at bytes = made form.Base64Bytes byte_string (decoded base64_bytes (enclosed may_stand_in_base64 93 bytes))

-- ---- all tokens

-- behind #xd
unfoldable pub double_mark_at : List ℕ → Result (Lexeme × List ℕ) TextKind
double_mark_at [] = Err Unclosed
double_mark_at (b ∷ bs) = if b == 34 then double_at bs else Err Unexpected

-- behind #x
unfoldable pub hex_mark_at : List ℕ → Result (Lexeme × List ℕ) TextKind
hex_mark_at [] = Err Unclosed
hex_mark_at (b ∷ bs) =
    if b == 34 then hex_at bs
    else (if b == 100 then double_mark_at bs else Err Unexpected)

-- behind #, where no comment begins
unfoldable pub hash_at : List ℕ → Result (Lexeme × List ℕ) TextKind
hash_at [] = Err Unclosed
hash_at (b ∷ bs) =
    if b == 116 then Ok (lexeme.Atom form.True (boolean true), bs) else (
    if b == 102 then Ok (lexeme.Atom form.False (boolean false), bs) else (
    if b == 123 then marked mark.SetOpen bs else (
    if b == 58 then marked mark.Embedded bs else (
    if b == 34 then ascii_at bs else (
    if b == 120 then hex_mark_at bs else (
    if b == 91 then base64_at bs else Err Unexpected))))))

-- what no mark of one character begins
unfoldable pub long_at : ℕ → List ℕ → Result (Lexeme × List ℕ) TextKind
long_at b bs =
    if b == 34 then string_at bs
    else (if b == 124 then symbol_at bs
    else (if b == 35 then hash_at bs
    else (if is_bare b then bare_at (b ∷ bs) else Err Unexpected)))

-- the token that the bytes begin with, with its content, and what follows it; or the first fault in it
unfoldable pub lexeme_at : List ℕ → Result (Lexeme × List ℕ) TextKind
lexeme_at [] = Err Unexpected
lexeme_at (b ∷ bs) =
    if b == 60 then marked mark.RecordOpen bs else (
    if b == 62 then marked mark.RecordClose bs else (
    if b == 91 then marked mark.SequenceOpen bs else (
    if b == 93 then marked mark.SequenceClose bs else (
    if b == 123 then marked mark.DictionaryOpen bs else (
    if b == 125 then marked mark.BraceClose bs else (
    if b == 58 then marked mark.Colon bs else (
    if b == 44 then marked mark.Comma bs else (
    if b == 64 then marked mark.Annotation bs else long_at b bs))))))))

-- ---- the tokens of a text of total bytes, whose last ones these are

abbrev pub kind_of : Lexeme → TokenKind
kind_of (lexeme.Mark m) = kind.Mark m
kind_of (lexeme.Atom f v) = kind.Atom f

-- the token at these bytes, behind which the rest is left
abbrev pub token_of : ℕ → List ℕ → Lexeme × List ℕ → Token
token_of total bytes x = record { kind = kind_of x.0; start = total - length bytes; end = total - length x.1 }

-- where no gap stands first; k is more than the number of bytes
abbrev pub tokens_in : ℕ → ℕ → List ℕ → Result (List Token) (Fault TextKind)
tokens_in total k [] = Ok []
tokens_in total zero (b ∷ bs) = Ok []
tokens_in total (suc k) (b ∷ bs) =
    within (total - length (b ∷ bs)) (lexeme_at (b ∷ bs))
    >>= λ x. tokens_in total k (after_blank false x.1) >>= λ ts. Ok (token_of total (b ∷ bs) x ∷ ts)
