-- Escapes in strings and quoted symbols. Preserves text syntax, "String" and "Symbol"; RFC 8259, section 7.
-- A fault is Unclosed where the text ends inside the escape, and BadEscape at a character that can't stand in it.
use Rattle.std.specs.Prelude.{ℕ, ◌+◌, ◌-◌, ◌*◌, Bool, ◌==◌, List, [], ◌∷◌, length, if◌then◌else◌, Option, Some, None}
use Rattle.std.specs.Prelude.{Result, Ok, Err, encode_utf8, ok_or}
use Rattle.std.specs.Result.{result_ok}
use Rattle.pv_lex.specs.Characters.{is_between, hex_digit}
use Rattle.pv_read.specs.Results.{◌>>=◌}
use Rattle.pv_lex.specs.Quoted.{items_value}
use Rattle.pv_lex.specs.declared.faults.TextKind.{TextKind}
use Rattle.pv_lex.specs.declared.faults.TextKind.TheVariants.{Unclosed, BadEscape, BadBytes}

-- what one letter behind the backslash stands for: \ / b f n r t
abbrev pub short_escape : ℕ → Option ℕ
short_escape c =
    if c == 92 then Some 92 else (
    if c == 47 then Some 47 else (
    if c == 98 then Some 8 else (
    if c == 102 then Some 12 else (
    if c == 110 then Some 10 else (
    if c == 114 then Some 13 else (
    if c == 116 then Some 9 else None))))))

-- this character, which must stand here
abbrev pub mark_at : ℕ → List ℕ → Result (List ℕ) TextKind
mark_at m [] = Err Unclosed
mark_at m (b ∷ bs) = if b == m then Ok bs else Err BadEscape

-- a hexadecimal digit, two of them, and four of them
abbrev pub digit_at : List ℕ → Result (ℕ × List ℕ) TextKind
digit_at [] = Err Unclosed
digit_at (b ∷ bs) = ok_or (hex_digit b) BadEscape >>= λ d. Ok (d, bs)

unfoldable pub pair_at : List ℕ → Result (ℕ × List ℕ) TextKind
pair_at bytes = digit_at bytes >>= λ h. digit_at h.1 >>= λ l. Ok (16 * h.0 + l.0, l.1)

unfoldable pub unit_at : List ℕ → Result (ℕ × List ℕ) TextKind
unit_at bytes = pair_at bytes >>= λ h. pair_at h.1 >>= λ l. Ok (256 * h.0 + l.0, l.1)

-- the surrogates of UTF-16: The Unicode Standard, section 3.8
abbrev pub is_high_surrogate : ℕ → Bool
is_high_surrogate u = is_between 0xd800 0xdbff u

abbrev pub is_low_surrogate : ℕ → Bool
is_low_surrogate u = is_between 0xdc00 0xdfff u

abbrev pub joined : ℕ → ℕ → ℕ
joined high low = 0x10000 + 0x400 * (high - 0xd800) + (low - 0xdc00)

-- a second \uXXXX, with a low surrogate
unfoldable pub low_at : List ℕ → Result (ℕ × List ℕ) TextKind
low_at bytes =
    mark_at 92 bytes >>= λ r. mark_at 117 r >>= λ s. unit_at s >>= λ u.
    if is_low_surrogate u.0 then Ok u else Err BadEscape

-- behind \u: four digits, and behind those of a high surrogate the low one
unfoldable pub unicode_at : List ℕ → Result (ℕ × List ℕ) TextKind
unicode_at bytes =
    unit_at bytes >>= λ u.
    if is_high_surrogate u.0 then (low_at u.1 >>= λ l. Ok (joined u.0 l.0, l.1))
    else (if is_low_surrogate u.0 then Err BadEscape else Ok u)

-- behind a backslash in a text with this closing quote: the character meant
unfoldable pub escape_at : ℕ → List ℕ → Result (ℕ × List ℕ) TextKind
escape_at quote [] = Err Unclosed
escape_at quote (c ∷ bs) =
    if c == quote then Ok (c, bs)
    else (if c == 117 then unicode_at bs
    else (ok_or (short_escape c) BadEscape >>= λ x. Ok (x, bs)))

-- a raw byte or an escape, in UTF-8
unfoldable pub text_item : ℕ → List ℕ → Result (List ℕ × List ℕ) TextKind
text_item quote [] = Err Unclosed
text_item quote (b ∷ bs) =
    if b == 92 then (escape_at quote bs >>= λ e. Ok (encode_utf8 e.0, e.1))
    else (if b == quote then Err BadBytes else Ok (b ∷ [], bs))

-- what the text between two of these quotes stands for, in UTF-8
abbrev pub unescaped : ℕ → List ℕ → Option (List ℕ)
unescaped quote text = result_ok (items_value (text_item quote) (length text) text)
