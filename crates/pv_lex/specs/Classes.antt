-- Runs of characters of one class, and what is read in a text of each kind of quotes.
use Rattle.std.specs.Prelude.{ℕ, Bool, ◌&&◌, ◌==◌, not, List, length, Result}
use Rattle.pv_lex.specs.Characters.{is_between, is_bare}
use Rattle.pv_lex.specs.Escapes.{text_item}
use Rattle.pv_lex.specs.ByteTexts.{byte_item, may_stand_in_hex, may_stand_in_base64}
use Rattle.pv_lex.specs.Quoted.{content_in}
use Rattle.pv_lex.specs.declared.faults.TextKind.{TextKind}
use Rattle.pv_lex.specs.declared.runs.Class.{Class}
use Rattle.pv_lex.specs.declared.runs.Class.TheVariants as class
use Rattle.pv_lex.specs.declared.runs.Quotes.{Quotes}
use Rattle.pv_lex.specs.declared.runs.Quotes.TheVariants as quotes

-- ---- "...", |...| and #"..."

abbrev pub quote_of : Quotes → ℕ
quote_of quotes.String = 34
quote_of quotes.Symbol = 124
quote_of quotes.Ascii = 34

abbrev pub item_of : Quotes → List ℕ → Result (List ℕ × List ℕ) TextKind
item_of quotes.String = text_item 34
item_of quotes.Symbol = text_item 124
item_of quotes.Ascii = byte_item

-- behind the opening quote
abbrev pub content_at : Quotes → List ℕ → Result (List ℕ × List ℕ) TextKind
content_at q bytes = content_in (item_of q) (quote_of q) (length bytes) bytes

-- a character that stands for itself
abbrev pub is_plain : Quotes → ℕ → Bool
is_plain quotes.String b = not (b == 34) && not (b == 92)
is_plain quotes.Symbol b = not (b == 124) && not (b == 92)
is_plain quotes.Ascii b = is_between 32 126 b && not (b == 34) && not (b == 92)

-- ---- runs

abbrev pub has : Class → ℕ → Bool
has class.Bare b = is_bare b
has class.Hexadecimal b = may_stand_in_hex b
has class.Base64 b = may_stand_in_base64 b
has (class.Plain q) b = is_plain q b
