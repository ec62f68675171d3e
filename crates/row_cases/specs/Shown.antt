-- Bytes and answers as a line of the report shows them.
use Rattle.std.specs.Prelude.{ℕ, ◌/◌, ◌%◌, ◌==◌, ◌&&◌, not, nat_le, false, List, [], ◌∷◌, codes, if◌then◌else◌}
use Rattle.std.specs.Prelude.{flat_map}
use Rattle.std.specs.Prelude.{string_bytes}
use Rattle.std.specs.Fmt.{digit_glyph}
use Rattle.std.specs.List.{join_by}
use Rattle.row_cases.specs.declared.codecs.Answer.{Answer}
use Rattle.row_cases.specs.declared.codecs.Answer.TheVariants.{Bytes, Text, Stops}

-- a byte in two hexadecimal digits
abbrev pub hex_digits : ℕ → List ℕ
hex_digits b = digit_glyph false (b / 16) ∷ digit_glyph false (b % 16) ∷ []

-- a byte: itself, where it is printable ASCII and no percent sign, else that sign and its digits
abbrev pub shown_byte : ℕ → List ℕ
shown_byte b = if nat_le 32 b && (nat_le b 126 && not (b == 37)) then b ∷ [] else 37 ∷ hex_digits b

abbrev pub shown : List ℕ → List ℕ
shown bytes = flat_map shown_byte bytes

-- bytes in pairs of hexadecimal digits, with a blank between two
abbrev pub digits_shown : List ℕ → List ℕ
digits_shown bytes = join_by hex_digits (codes " ") bytes

abbrev pub answer_shown : Answer → List ℕ
answer_shown (Bytes b) = digits_shown b.items
answer_shown (Text s) = shown (string_bytes s)
answer_shown (Stops s) = shown (string_bytes s)

-- what stands before the element at this place: nothing before the first, and this text before each other
abbrev pub behind_first : ℕ → List ℕ → List ℕ
behind_first place text = if place == 0 then [] else text
