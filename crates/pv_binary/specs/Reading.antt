-- What reading gives: a value and the bytes after it, or the first fault from the left and its place. The bytes are
-- those of the Preserves binary specification, its table of tags and its sections "Varints" and "SignedInteger".
use Rattle.std.specs.Prelude.{replicate, ℤ, ℕ, zero, suc, ◌+◌, ◌-◌, ◌*◌, Bool, true, false, ◌==◌, nat_lt, not}
use Rattle.std.specs.Prelude.{List, [], ◌∷◌, ◌++◌, length, take, drop, if◌then◌else◌, Option, Result, Ok, Err}
use Rattle.std.specs.Str.{is_utf8}
use Rattle.std.specs.Int.{w64, w128, from_be_bytes, cast_signed}
use Rattle.std.specs.Option.{ok_or}
use Rattle.pv_value.specs.Plain.{Plain, boolean, double, integer, string, byte_string, symbol}
use Rattle.pv_value.specs.Plain.{record_of, sequence, embedded, plains}
use Rattle.pv_value.specs.Sets.{set_from, dictionary_from}
use Rattle.pv_read.specs.Results.{Fault, ◌>>=◌, within}
use Rattle.pv_read.specs.Elements.{elements_at}
use Rattle.pv_binary.specs.Numbers.{repeats_sign}
use Rattle.pv_binary.specs.Tags.{tag_of}
use Rattle.pv_binary.specs.declared.tag.Tag.{Tag}
use Rattle.pv_binary.specs.declared.tag.Tag.TheVariants as tag
use Rattle.pv_binary.specs.declared.faults.BinKind.{BinKind}
use Rattle.pv_binary.specs.declared.faults.BinKind.TheVariants.{Truncated, BadTag, LongVarint, LongInteger}
use Rattle.pv_binary.specs.declared.faults.BinKind.TheVariants.{TooWide, BadUtf8, Duplicate, TooDeep}

-- ---- numbers and what stands behind a count

-- one byte of a count, and the higher bytes: those are not all zero
abbrev pub with_higher : ℕ → Result (ℕ × List ℕ) BinKind → Result (ℕ × List ℕ) BinKind
with_higher b (Err k) = Err k
with_higher b (Ok high) = if high.0 == 0 then Err LongVarint else Ok (b - 128 + 128 * high.0, high.1)

-- a count below 2 ^ 64 in its shortest form; after k more bytes the tenth is reached, which holds one bit
abbrev pub varint_at : ℕ → List ℕ → Result (ℕ × List ℕ) BinKind
varint_at k [] = Err Truncated
varint_at zero (b ∷ bytes) = if b == 1 then Ok (1, bytes) else Err LongVarint
varint_at (suc k) (b ∷ bytes) = if nat_lt b 128 then Ok (b, bytes) else with_higher b (varint_at k bytes)

abbrev pub split_at : ℕ → List ℕ → Result (List ℕ × List ℕ) BinKind
split_at n bytes = if nat_lt (length bytes) n then Err Truncated else Ok (take n bytes, drop n bytes)

-- bytes behind their count
unfoldable pub counted_at : List ℕ → Result (List ℕ × List ℕ) BinKind
counted_at bytes = varint_at 9 bytes >>= λ n. split_at n.0 n.1

unfoldable pub text_at : List ℕ → Result (List ℕ × List ℕ) BinKind
text_at bytes = counted_at bytes >>= λ s. if is_utf8 s.0 then Ok s else Err BadUtf8

-- the byte that repeats the sign
abbrev pub sign : List ℕ → ℕ
sign [] = 0
sign (b ∷ bs) = if nat_lt b 128 then 0 else 255

-- 16 bytes of two's complement
abbrev pub pad : List ℕ → List ℕ
pad s = replicate (16 - length s) (sign s) ++ s

unfoldable pub int_value : List ℕ → ℤ
int_value s = cast_signed w128 (from_be_bytes w128 (pad s))

-- no byte only repeats the sign
abbrev pub is_minimal : List ℕ → Bool
is_minimal [] = true
is_minimal (b ∷ []) = not (b == 0)
is_minimal (b ∷ c ∷ bs) = not (repeats_sign b c)

-- an integer behind the count of its bytes: at most 16, and as few as will do
abbrev pub int_behind : ℕ → List ℕ → Result (ℤ × List ℕ) BinKind
int_behind n bytes =
    if nat_lt 16 n then Err TooWide
    else (split_at n bytes >>= λ s. if is_minimal s.0 then Ok (int_value s.0, s.1) else Err LongInteger)

unfoldable pub int_at : List ℕ → Result (ℤ × List ℕ) BinKind
int_at bytes = varint_at 9 bytes >>= λ n. int_behind n.0 n.1

-- the 8 and the eight bytes of a double
unfoldable pub double_at : List ℕ → Result (ℕ × List ℕ) BinKind
double_at [] = Err Truncated
double_at (b ∷ bytes) = if b == 8 then (split_at 8 bytes >>= λ s. Ok (from_be_bytes w64 s.0, s.1)) else Err BadTag

-- ---- values

-- the bytes end where a tag is due
abbrev pub no_tag : ℕ → Fault BinKind
no_tag total = record { kind = Truncated; place = total }

-- reading a value
abbrev pub Inner : Type 0
Inner = List ℕ → Result (Plain × List ℕ) (Fault BinKind)

-- an entry: its key, and then its value
abbrev pub entry_at : Inner → List ℕ → Result ((Plain × Plain) × List ℕ) (Fault BinKind)
entry_at inner bytes = inner bytes >>= λ k. inner k.1 >>= λ v. Ok ((k.0, v.0), v.1)

-- elements up to the end; k is at least the number of the bytes
abbrev pub up_to_end : {A : Type 0} → ℕ → (List ℕ → Result (A × List ℕ) (Fault BinKind)) → ℕ → List ℕ
    → Result (List A × List ℕ) (Fault BinKind)
up_to_end total element k bytes = elements_at (λ b. b) 0x84 (no_tag total) element k bytes

-- values, and entries
abbrev pub items_at : ℕ → Inner → List ℕ → Result (List Plain × List ℕ) (Fault BinKind)
items_at total inner bytes = up_to_end total inner (length bytes) bytes

abbrev pub pairs_at : ℕ → Inner → List ℕ → Result (List (Plain × Plain) × List ℕ) (Fault BinKind)
pairs_at total inner bytes = up_to_end total (entry_at inner) (length bytes) bytes

-- what elements or entries make; none where two elements or two keys are equal
abbrev pub made_at : ℕ → Option Plain → Result Plain (Fault BinKind)
made_at place made = within place (ok_or made Duplicate)

-- what stands behind the tag of an atom at this place
unfoldable pub atom_at : ℕ → Tag → List ℕ → Result (Plain × List ℕ) (Fault BinKind)
atom_at place tag.False bytes = Ok (boolean false, bytes)
atom_at place tag.True bytes = Ok (boolean true, bytes)
atom_at place tag.Double bytes = within place (double_at bytes >>= λ s. Ok (double s.0, s.1))
atom_at place tag.Integer bytes = within place (int_at bytes >>= λ s. Ok (integer s.0, s.1))
atom_at place tag.String bytes = within place (text_at bytes >>= λ s. Ok (string s.0, s.1))
atom_at place tag.ByteString bytes = within place (counted_at bytes >>= λ s. Ok (byte_string s.0, s.1))
atom_at place tag.Symbol bytes = within place (text_at bytes >>= λ s. Ok (symbol s.0, s.1))
atom_at place t bytes = within place (Err BadTag)

-- what stands behind the tag of a compound at this place, whose values inner reads
unfoldable pub compound_at : ℕ → ℕ → Inner → Tag → List ℕ → Result (Plain × List ℕ) (Fault BinKind)
compound_at total place inner tag.Embedded bytes = inner bytes >>= λ x. Ok (embedded x.0, x.1)
compound_at total place inner tag.Record bytes =
    inner bytes >>= λ l. items_at total inner l.1 >>= λ fs. Ok (record_of l.0 (plains fs.0), fs.1)
compound_at total place inner tag.Sequence bytes =
    items_at total inner bytes >>= λ xs. Ok (sequence (plains xs.0), xs.1)
compound_at total place inner tag.Set bytes =
    items_at total inner bytes >>= λ xs. made_at place (set_from xs.0) >>= λ v. Ok (v, xs.1)
compound_at total place inner tag.Dictionary bytes =
    pairs_at total inner bytes >>= λ ps. made_at place (dictionary_from ps.0) >>= λ v. Ok (v, ps.1)
compound_at total place inner t bytes = within place (Err BadTag)

-- whether a tag opens a level of nesting
abbrev pub is_compound : Tag → Bool
is_compound tag.Embedded = true
is_compound tag.Record = true
is_compound tag.Sequence = true
is_compound tag.Set = true
is_compound tag.Dictionary = true
is_compound t = false

-- a value behind its tag; deeper reads what a compound holds, where one more level may be opened
unfoldable pub behind : ℕ → Tag → List ℕ → (Tag → Inner) → Result (Plain × List ℕ) (Fault BinKind)
behind place t bytes deeper = if is_compound t then deeper t bytes else atom_at place t bytes

-- a value that nests at most d deep, where the bytes are the last of total bytes
unfoldable pub value_at : ℕ → ℕ → List ℕ → Result (Plain × List ℕ) (Fault BinKind)
value_at total d [] = Err (no_tag total)
value_at total zero (b ∷ bytes) =
    let place = total - length (b ∷ bytes) in
    behind place (tag_of b) bytes (λ t rest. within place (Err TooDeep))
value_at total (suc d) (b ∷ bytes) =
    let place = total - length (b ∷ bytes) in
    behind place (tag_of b) bytes (compound_at total place (value_at total d))
