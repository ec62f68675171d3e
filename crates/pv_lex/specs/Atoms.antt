-- Which texts are atoms, and of which values: the Preserves text syntax, "Booleans", "Numbers", "Strings",
-- "ByteStrings" and "Symbols". A text stands before a rest, since a bare token ends only where something else begins.
use Rattle.std.specs.Prelude.{◌≡◌, ℕ, true, false, IsTrue, List, [], ◌∷◌, ◌++◌, length, Some}
use Rattle.std.specs.Str.{IsUtf8}
use Rattle.pv_value.specs.Plain.{Plain, boolean, double, integer, string, byte_string, symbol}
use Rattle.pv_lex.specs.Characters.{is_bare, all_of, ends_bare}
use Rattle.pv_lex.specs.Escapes.{unescaped}
use Rattle.pv_lex.specs.ByteTexts.{ascii_bytes, hex_bytes, base64_bytes, double_bits}
use Rattle.pv_lex.specs.Numbers.{integer_of, is_integer_text, is_decimal_double}
use Rattle.pv_lex.specs.declared.kinds.AtomForm.{AtomForm}
use Rattle.pv_lex.specs.declared.kinds.AtomForm.TheVariants as form

-- "..." and |...|, by the quote
abbrev pub IsQuoted : ℕ → List ℕ → List ℕ → Type 0
IsQuoted quote t s = (u : List ℕ) × (t ≡ quote ∷ (u ++ quote ∷ [])) × (unescaped quote u ≡ Some s)

-- bare characters that are no number
abbrev pub IsBareSymbol : List ℕ → Type 0
IsBareSymbol s =
    IsTrue (all_of is_bare s) × (length s ≡ 0 → ⊥) × (is_integer_text s ≡ false) × (is_decimal_double s ≡ false)

-- the text, before the rest, is an atom of this form and of this value
abbrev pub IsAtomOf : AtomForm → List ℕ → Plain → List ℕ → Type 0
IsAtomOf form.False t (boolean false) r = t ≡ 35 ∷ 102 ∷ []
IsAtomOf form.True t (boolean true) r = t ≡ 35 ∷ 116 ∷ []
IsAtomOf form.Integer t (integer z) r = IsTrue (all_of is_bare t) × (integer_of t ≡ Some z) × IsTrue (ends_bare r)
IsAtomOf form.Symbol t (symbol s) r = IsUtf8 s × (t ≡ s) × IsBareSymbol s × IsTrue (ends_bare r)
IsAtomOf form.QuotedSymbol t (symbol s) r = IsUtf8 s × IsQuoted 124 t s
IsAtomOf form.String t (string s) r = IsUtf8 s × IsQuoted 34 t s
IsAtomOf form.AsciiBytes t (byte_string s) r = (u : List ℕ) × (t ≡ 35 ∷ 34 ∷ (u ++ 34 ∷ [])) × (ascii_bytes u ≡ Some s)
IsAtomOf form.HexBytes t (byte_string s) r =
    (u : List ℕ) × (t ≡ 35 ∷ 120 ∷ 34 ∷ (u ++ 34 ∷ [])) × (hex_bytes u ≡ Some s)
IsAtomOf form.Base64Bytes t (byte_string s) r =
    (u : List ℕ) × (t ≡ 35 ∷ 91 ∷ (u ++ 93 ∷ [])) × (base64_bytes u ≡ Some s)
IsAtomOf form.Double t (double n) r =
    (u : List ℕ) × (t ≡ 35 ∷ 120 ∷ 100 ∷ 34 ∷ (u ++ 34 ∷ [])) × (double_bits u ≡ Some n)
IsAtomOf f t v r = ⊥

-- in some form
abbrev pub IsAtom : List ℕ → Plain → List ℕ → Type 0
IsAtom t v r = (f : AtomForm) × IsAtomOf f t v r
