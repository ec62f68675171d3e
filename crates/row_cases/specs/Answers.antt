-- What a call of the codecs answers, and when two answers are the same.
use Rattle.std.specs.Prelude.{◌≡◌, string_bytes}
use Rattle.row_cases.specs.declared.codecs.Answer.{Answer}
use Rattle.row_cases.specs.declared.codecs.Answer.TheVariants.{Bytes, Text, Stops}

-- of one kind, and of the same bytes
abbrev pub IsSameAnswer : Answer → Answer → Type 0
IsSameAnswer (Bytes a) (Bytes b) = a.items ≡ b.items
IsSameAnswer (Text a) (Text b) = string_bytes a ≡ string_bytes b
IsSameAnswer (Stops a) (Stops b) = string_bytes a ≡ string_bytes b
IsSameAnswer (Bytes a) (Text b) = ⊥
IsSameAnswer (Bytes a) (Stops b) = ⊥
IsSameAnswer (Text a) (Bytes b) = ⊥
IsSameAnswer (Text a) (Stops b) = ⊥
IsSameAnswer (Stops a) (Bytes b) = ⊥
IsSameAnswer (Stops a) (Text b) = ⊥
