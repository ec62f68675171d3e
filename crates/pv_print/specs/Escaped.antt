-- Text between quotes: Preserves text syntax, "String" and "Symbol"; RFC 8259, section 7.
use Rattle.std.specs.Prelude.{ℕ, Bool, ◌&&◌, ◌||◌, ◌==◌, nat_lt, not, List, [], ◌∷◌, ◌++◌, if◌then◌else◌}
use Rattle.pv_print.specs.Hex.{hex_pairs}

-- a byte below 32: \b \t \n \f \r, else \u00 and its two digits
abbrev pub control_escape : ℕ → List ℕ
control_escape b =
    if b == 8 then 92 ∷ 98 ∷ []
    else (if b == 9 then 92 ∷ 116 ∷ []
    else (if b == 10 then 92 ∷ 110 ∷ []
    else (if b == 12 then 92 ∷ 102 ∷ []
    else (if b == 13 then 92 ∷ 114 ∷ []
    else 92 ∷ 117 ∷ 48 ∷ 48 ∷ hex_pairs (b ∷ [])))))

-- whether a byte stands as it is between these quotes: neither the quote, nor a backslash, nor a byte below 32
abbrev pub stands_raw : ℕ → ℕ → Bool
stands_raw quote b = not (b == quote) && not (b == 92) && not (nat_lt b 32)

-- how a byte is written between these quotes: the quote and the backslash stand behind a backslash, and all else from
-- 32 up, as each byte of a character from 80 hexadecimal up, stands as it is
abbrev pub escape : ℕ → ℕ → List ℕ
escape quote b =
    if (b == quote) || (b == 92) then 92 ∷ b ∷ []
    else (if nat_lt b 32 then control_escape b else b ∷ [])

-- a text, byte by byte
abbrev pub escaped : ℕ → List ℕ → List ℕ
escaped quote [] = []
escaped quote (b ∷ bs) = escape quote b ++ escaped quote bs

-- the text between its quotes
abbrev pub quoted : ℕ → List ℕ → List ℕ
quoted quote s = quote ∷ (escaped quote s ++ quote ∷ [])
