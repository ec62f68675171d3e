-- Names, and what a symbol writes by itself. Preserves Schema, sections "Identifiers" and "Patterns".
use Rattle.std.specs.Prelude.{ℕ, Bool, false, ◌&&◌, ◌||◌, ◌==◌, not, List, [], ◌∷◌, Option, Some, None, codes}
use Rattle.std.specs.Prelude.{is_some, option_map, if◌then◌else◌}
use Rattle.std.specs.List.{list_all}
use Rattle.std.specs.Char.{is_ascii_alphabetic, is_ascii_alphanumeric}
use Rattle.pv_value.specs.Plain.{symbol}
use Rattle.pv_words.specs.declared.kinds.AtomKind.{AtomKind}
use Rattle.pv_words.specs.declared.kinds.AtomKind.TheVariants.{Boolean, Double, SignedInteger, String, ByteString, Symbol}
use Rattle.pv_words.specs.Words.{is_word}
use Rattle.ps_schema.specs.Patterns.{PlainPattern, any_value, of_kind, literal, reference}
use Rattle.ps_read.specs.Pieces.{pieces}

-- the words of kinds
abbrev pub kind_named : List ℕ → Option AtomKind
kind_named s =
    if is_word s (codes "bool") then Some Boolean
    else (if is_word s (codes "double") then Some Double
    else (if is_word s (codes "int") then Some SignedInteger
    else (if is_word s (codes "string") then Some String
    else (if is_word s (codes "bytes") then Some ByteString
    else (if is_word s (codes "symbol") then Some Symbol else None)))))

-- the seven words
abbrev pub word_pattern : List ℕ → Option PlainPattern
word_pattern s = if is_word s (codes "any") then Some any_value else option_map of_kind (kind_named s)

abbrev pub is_letter_or_digit : ℕ → Bool
is_letter_or_digit c = is_ascii_alphanumeric c || (c == 95)

-- a letter, and then letters, digits and `_`
abbrev pub is_named : List ℕ → Bool
is_named [] = false
is_named (c ∷ cs) = is_ascii_alphabetic c && list_all is_letter_or_digit cs

-- a name that is none of the seven words
abbrev pub is_name : List ℕ → Bool
is_name s = is_named s && not (is_some (word_pattern s))

abbrev pub is_point : ℕ → Bool
is_point c = c == 46

-- names joined by points
abbrev pub are_names : List ℕ → Bool
are_names s = list_all is_name (pieces is_point s)

-- a symbol that begins with `=` writes the rest of it
abbrev pub equals_pattern : List ℕ → Option PlainPattern
equals_pattern [] = None
equals_pattern (c ∷ cs) = if c == 61 then Some (literal (symbol cs)) else None

abbrev pub first_pattern_of : Option PlainPattern → Option PlainPattern → Option PlainPattern
first_pattern_of (Some p) o = Some p
first_pattern_of None o = o

-- a word, a literal, or names, of which more than one joined by points stand for a name of another schema
abbrev pub symbol_pattern : List ℕ → Option PlainPattern
symbol_pattern s = first_pattern_of (word_pattern s) (first_pattern_of (equals_pattern s)
    (if are_names s then Some (reference s) else None))
