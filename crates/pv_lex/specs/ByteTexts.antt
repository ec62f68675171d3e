-- The three texts of byte strings, and the text of a double. Preserves text syntax, "ByteString" and "Double";
-- RFC 4648, sections 4 and 5, for base64 in either alphabet. White space counts for nothing in all but the first.
use Rattle.std.specs.Prelude.{ℕ, ◌+◌, ◌-◌, ◌*◌, ◌/◌, ◌%◌, Bool, ◌&&◌, ◌||◌, ◌==◌, nat_lt, not, List, [], ◌∷◌, ◌++◌}
use Rattle.std.specs.Prelude.{length, if◌then◌else◌, Option, Some, None, Result, Ok, Err, ok_or, option_map, is_some}
use Rattle.std.specs.Option.{option_and_then}
use Rattle.std.specs.Result.{result_ok}
use Rattle.std.specs.Int.{w64, from_be_bytes}
use Rattle.pv_lex.specs.Characters.{is_between, is_space, hex_digit, run}
use Rattle.pv_read.specs.Results.{◌>>=◌}
use Rattle.pv_lex.specs.Quoted.{items_value}
use Rattle.pv_lex.specs.Escapes.{short_escape, pair_at}
use Rattle.pv_lex.specs.declared.faults.TextKind.{TextKind}
use Rattle.pv_lex.specs.declared.faults.TextKind.TheVariants.{Unclosed, BadEscape, BadBytes}

-- ---- #"..."

-- behind a backslash: the byte meant
unfoldable pub byte_escape_at : List ℕ → Result (ℕ × List ℕ) TextKind
byte_escape_at [] = Err Unclosed
byte_escape_at (c ∷ bs) =
    if c == 34 then Ok (c, bs)
    else (if c == 120 then pair_at bs
    else (ok_or (short_escape c) BadEscape >>= λ x. Ok (x, bs)))

-- a printable ASCII character, or an escape
unfoldable pub byte_item : List ℕ → Result (List ℕ × List ℕ) TextKind
byte_item [] = Err Unclosed
byte_item (b ∷ bs) =
    if b == 92 then (byte_escape_at bs >>= λ e. Ok (e.0 ∷ [], e.1))
    else (if is_between 32 126 b && not (b == 34) then Ok (b ∷ [], bs) else Err BadBytes)

abbrev pub ascii_bytes : List ℕ → Option (List ℕ)
ascii_bytes text = result_ok (items_value byte_item (length text) text)

-- ---- #x"..."

-- the bytes of digits in pairs; high is the first of a pair, where the second is due
abbrev pub hex_in : Option ℕ → List ℕ → Option (List ℕ)
hex_in high [] = if is_some high then None else Some []
hex_in high (b ∷ bs) =
    if is_space b then hex_in high bs
    else option_and_then (λ d. elim high
    [ None ↦ hex_in (Some d) bs | Some h ↦ option_map (λ s. (16 * h + d) ∷ s) (hex_in None bs) ]) (hex_digit b)

abbrev pub hex_bytes : List ℕ → Option (List ℕ)
hex_bytes text = hex_in None text

-- ---- #[...]

-- what a digit of base64 stands for: A to Z, a to z, 0 to 9, + or -, / or _
abbrev pub sextet : ℕ → Option ℕ
sextet b =
    if is_between 65 90 b then Some (b - 65)
    else (if is_between 97 122 b then Some (b - 71)
    else (if is_between 48 57 b then Some (b + 4)
    else (if (b == 43) || (b == 45) then Some 62
    else (if (b == 47) || (b == 95) then Some 63 else None))))

-- the three bytes of a whole group, whose four digits form n
abbrev pub group_bytes : ℕ → List ℕ
group_bytes n = n / 65536 ∷ n / 256 % 256 ∷ n % 256 ∷ []

-- the bytes of a last group of k digits, which form n: no bits may be left over
abbrev pub last_bytes : ℕ → ℕ → Option (List ℕ)
last_bytes k n =
    if k == 0 then Some []
    else (if (k == 2) && (n % 16 == 0) then Some (n / 16 ∷ [])
    else (if (k == 3) && (n % 4 == 0) then Some (n / 1024 ∷ n / 4 % 256 ∷ []) else None))

-- m times = and no more
abbrev pub is_padding : ℕ → List ℕ → Bool
is_padding m [] = m == 0
is_padding m (b ∷ bs) =
    if is_space b then is_padding m bs
    else (b == 61) && nat_lt 0 m && is_padding (m - 1) bs

-- k digits of a group are read, and form n
abbrev pub base64_in : ℕ → ℕ → List ℕ → Option (List ℕ)
base64_in k n [] = last_bytes k n
base64_in k n (b ∷ bs) =
    if is_space b then base64_in k n bs
    else (if b == 61 then (if nat_lt 0 k && is_padding (3 - k) bs then last_bytes k n else None)
    else option_and_then (λ d. if k == 3 then option_map (λ s. group_bytes (64 * n + d) ++ s)
    (base64_in 0 0 bs) else base64_in (k + 1) (64 * n + d) bs) (sextet b))

abbrev pub base64_bytes : List ℕ → Option (List ℕ)
base64_bytes text = base64_in 0 0 text

-- ---- #xd"..."

-- the bits of a double: eight bytes, big-endian
unfoldable pub double_bits : List ℕ → Option ℕ
double_bits text = option_and_then (λ s. if length s == 8 then Some (from_be_bytes w64 s) else None) (hex_bytes text)

-- ---- to the closing character

-- what may stand in #x".." and #xd"..", and in #[..]
abbrev pub may_stand_in_hex : ℕ → Bool
may_stand_in_hex b = is_space b || is_some (hex_digit b)

abbrev pub may_stand_in_base64 : ℕ → Bool
may_stand_in_base64 b = is_space b || (b == 61) || is_some (sextet b)

-- the digits up to the closing character, and what follows that; a foreign character before it is met first
abbrev pub up_to : ℕ → List ℕ × List ℕ → Result (List ℕ × List ℕ) TextKind
up_to close (digits, []) = Err Unclosed
up_to close (digits, b ∷ bs) = if b == close then Ok (digits, bs) else Err BadBytes

abbrev pub enclosed : (ℕ → Bool) → ℕ → List ℕ → Result (List ℕ × List ℕ) TextKind
enclosed may_stand close bytes = up_to close (run may_stand bytes)
