-- Numbers in bytes: counts and integers. Preserves binary specification, sections "Varints" and "SignedInteger".
use Rattle.std.specs.Prelude.{ℕ, zero, suc, ◌+◌, ◌/◌, ◌%◌, ℤ, Bool, ◌&&◌, ◌||◌, ◌==◌, nat_lt, not, List, [], ◌∷◌, ◌++◌}
use Rattle.std.specs.Prelude.{length, if◌then◌else◌}
use Rattle.std.specs.Int.{w128, to_be_bytes, cast_unsigned}

-- a number in bytes of seven bits, the lowest first; each but the last has its top bit set. k is at least the number
abbrev pub varint_in : ℕ → ℕ → List ℕ
varint_in zero n = n ∷ []
varint_in (suc k) n = if nat_lt n 128 then n ∷ [] else (n % 128 + 128) ∷ varint_in k (n / 128)

unfoldable pub varint : ℕ → List ℕ
varint n = varint_in n n

-- bytes behind their count
abbrev pub counted : List ℕ → List ℕ
counted bs = varint (length bs) ++ bs

-- whether b only repeats the sign that c has
abbrev pub repeats_sign : ℕ → ℕ → Bool
repeats_sign b c = ((b == 0) && nat_lt c 128) || ((b == 255) && not (nat_lt c 128))

-- two's complement without bytes that only repeat the sign
abbrev pub minimal : List ℕ → List ℕ
minimal [] = []
minimal (b ∷ []) = if b == 0 then [] else b ∷ []
minimal (b ∷ c ∷ bs) = if repeats_sign b c then minimal (c ∷ bs) else b ∷ c ∷ bs

-- an integer in the fewest bytes of two's complement, big-endian
unfoldable pub int_bytes : ℤ → List ℕ
int_bytes z = minimal (to_be_bytes w128 (cast_unsigned w128 z))
