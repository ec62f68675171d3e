-- What is wrong with a token, by the bytes from its beginning to the end of the text. A fault of its kinds stands at
-- the token's beginning.
use Rattle.std.specs.Prelude.{◌≡◌, ◌≢◌, ℕ, Bool, ◌||◌, ◌==◌, IsTrue, IsFalse, List, [], ◌∷◌, ◌++◌, Some, IsSome, Err}
use Rattle.std.specs.Prelude.{◌⊎◌}
use Rattle.std.specs.Str.{IsUtf8}
use Rattle.pv_lex.specs.Characters.{is_space, is_bare, all_of, ends_bare, begins_comment}
use Rattle.pv_lex.specs.Escapes.{text_item, unescaped}
use Rattle.pv_lex.specs.ByteTexts.{byte_item, ascii_bytes, hex_bytes, base64_bytes, double_bits, may_stand_in_hex}
use Rattle.pv_lex.specs.ByteTexts.{may_stand_in_base64}
use Rattle.pv_lex.specs.Numbers.{is_integer_text, is_decimal_double, is_wide}
use Rattle.pv_lex.specs.declared.faults.TextKind.{TextKind}
use Rattle.pv_lex.specs.declared.faults.TextKind.TheVariants.{Unexpected, DecimalDouble, BadBytes, Unclosed, TooWide}
use Rattle.pv_lex.specs.declared.faults.TextKind.TheVariants.{BadUtf8}

-- ---- quoted text: behind the quote stands what is well written, and then what is cut off or badly written

-- what follows is no closing quote, and as an item of the text it has this fault
abbrev pub IsBadItem : (List ℕ → Type 0) → ℕ → List ℕ → Type 0
IsBadItem Bad quote bytes = ((r : List ℕ) → bytes ≡ quote ∷ r → ⊥) × Bad bytes

-- "..." and |...|
abbrev pub QuotedFault : ℕ → List ℕ → TextKind → Type 0
QuotedFault quote bytes k =
    (s : List ℕ) × (t : List ℕ) × (u : List ℕ) × (bytes ≡ s ++ t) × (unescaped quote s ≡ Some u)
    × IsBadItem (λ b. text_item quote b ≡ Err k) quote t

-- #"..."
abbrev pub AsciiFault : List ℕ → TextKind → Type 0
AsciiFault bytes k =
    (s : List ℕ) × (t : List ℕ) × (u : List ℕ) × (bytes ≡ s ++ t) × (ascii_bytes s ≡ Some u)
    × IsBadItem (λ b. byte_item b ≡ Err k) 34 t

-- what is quoted isn't UTF-8; it is where the text is
abbrev pub IsNoText : ℕ → List ℕ → Type 0
IsNoText quote bytes =
    (s : List ℕ) × (r : List ℕ) × (u : List ℕ) × (bytes ≡ s ++ quote ∷ r) × (unescaped quote s ≡ Some u)
    × (IsUtf8 u → ⊥)

-- ---- digits up to a close: the first foreign character counts, and at the close what they stand for

abbrev pub IsForeign : (ℕ → Bool) → ℕ → List ℕ → Type 0
IsForeign may_stand close bytes =
    (s : List ℕ) × (b : ℕ) × (r : List ℕ) × (bytes ≡ s ++ b ∷ r) × IsTrue (all_of may_stand s) × (b ≢ close)
    × IsFalse (may_stand b)

abbrev pub IsMiscounted : (ℕ → Bool) → (List ℕ → Type 0) → ℕ → List ℕ → Type 0
IsMiscounted may_stand Good close bytes =
    (s : List ℕ) × (r : List ℕ) × (bytes ≡ s ++ close ∷ r) × IsTrue (all_of may_stand s) × (Good s → ⊥)

abbrev pub DigitsFault : (ℕ → Bool) → (List ℕ → Type 0) → ℕ → List ℕ → TextKind → Type 0
DigitsFault may_stand Good close bytes Unclosed = IsTrue (all_of may_stand bytes)
DigitsFault may_stand Good close bytes BadBytes =
    IsForeign may_stand close bytes ⊎ IsMiscounted may_stand Good close bytes
DigitsFault may_stand Good close bytes k = ⊥

-- #x"...", #xd"..." and #[...]
abbrev pub HexFault : List ℕ → TextKind → Type 0
HexFault bytes k = DigitsFault may_stand_in_hex (λ s. IsSome (hex_bytes s)) 34 bytes k

abbrev pub DoubleFault : List ℕ → TextKind → Type 0
DoubleFault bytes k = DigitsFault may_stand_in_hex (λ s. IsSome (double_bits s)) 34 bytes k

abbrev pub Base64Fault : List ℕ → TextKind → Type 0
Base64Fault bytes k = DigitsFault may_stand_in_base64 (λ s. IsSome (base64_bytes s)) 93 bytes k

-- ---- bare tokens, up to the first other character

abbrev pub IsBareToken : (List ℕ → Type 0) → List ℕ → Type 0
IsBareToken Is bytes =
    (s : List ℕ) × (r : List ℕ) × (bytes ≡ s ++ r) × IsTrue (all_of is_bare s) × IsTrue (ends_bare r) × Is s

abbrev pub BareFault : List ℕ → TextKind → Type 0
BareFault bytes TooWide = IsBareToken (λ s. IsTrue (is_integer_text s) × IsTrue (is_wide s)) bytes
BareFault bytes DecimalDouble = IsBareToken (λ s. IsTrue (is_decimal_double s)) bytes
BareFault bytes BadUtf8 =
    IsBareToken (λ s. (s ≢ []) × IsFalse (is_integer_text s) × IsFalse (is_decimal_double s) × (IsUtf8 s → ⊥)) bytes
BareFault bytes k = ⊥

-- ---- any token

-- < > [ ] { } : , @
abbrev pub is_mark : ℕ → Bool
is_mark b =
    (b == 60) || (b == 62) || (b == 91) || (b == 93) || (b == 123) || (b == 125) || (b == 58) || (b == 44) || (b == 64)

-- what goes on a # to a token: t f { : " x [
abbrev pub goes_on : ℕ → Bool
goes_on b = (b == 116) || (b == 102) || (b == 123) || (b == 58) || (b == 34) || (b == 120) || (b == 91)

-- some token begins with it
abbrev pub begins_token : ℕ → Bool
begins_token b = is_mark b || is_bare b || (b == 34) || (b == 124) || (b == 35)

-- by the first characters, whose fault is what follows them
pub data TokenFault : List ℕ → TextKind → Type 0 where
  in_string : (bytes : List ℕ) (k : TextKind) → QuotedFault 34 bytes k → TokenFault (34 ∷ bytes) k
  in_symbol : (bytes : List ℕ) (k : TextKind) → QuotedFault 124 bytes k → TokenFault (124 ∷ bytes) k
  no_string : (bytes : List ℕ) → IsNoText 34 bytes → TokenFault (34 ∷ bytes) BadUtf8
  no_symbol : (bytes : List ℕ) → IsNoText 124 bytes → TokenFault (124 ∷ bytes) BadUtf8
  in_ascii : (bytes : List ℕ) (k : TextKind) → AsciiFault bytes k → TokenFault (35 ∷ 34 ∷ bytes) k
  in_hex : (bytes : List ℕ) (k : TextKind) → HexFault bytes k → TokenFault (35 ∷ 120 ∷ 34 ∷ bytes) k
  in_base64 : (bytes : List ℕ) (k : TextKind) → Base64Fault bytes k → TokenFault (35 ∷ 91 ∷ bytes) k
  in_double : (bytes : List ℕ) (k : TextKind) → DoubleFault bytes k → TokenFault (35 ∷ 120 ∷ 100 ∷ 34 ∷ bytes) k
  in_bare : (bytes : List ℕ) (k : TextKind) → BareFault bytes k → TokenFault bytes k
  hash_alone : TokenFault (35 ∷ []) Unclosed
  hex_alone : TokenFault (35 ∷ 120 ∷ []) Unclosed
  double_alone : TokenFault (35 ∷ 120 ∷ 100 ∷ []) Unclosed
  other_hash : (b : ℕ) (bytes : List ℕ) → IsFalse (goes_on b) → IsFalse (begins_comment (b ∷ bytes))
      → TokenFault (35 ∷ b ∷ bytes) Unexpected
  other_hex : (b : ℕ) (bytes : List ℕ) → b ≢ 34 → b ≢ 100 → TokenFault (35 ∷ 120 ∷ b ∷ bytes) Unexpected
  other_double : (b : ℕ) (bytes : List ℕ) → b ≢ 34 → TokenFault (35 ∷ 120 ∷ 100 ∷ b ∷ bytes) Unexpected
  other : (b : ℕ) (bytes : List ℕ) → IsFalse (begins_token b) → IsFalse (is_space b) → TokenFault (b ∷ bytes) Unexpected
