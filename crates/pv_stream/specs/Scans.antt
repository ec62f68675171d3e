-- Where the first value ends, by tags, counts and levels, and by what stands in its atoms: as reading goes, but that
-- elements may repeat. Preserves binary specification, its table of tags.
use Rattle.std.specs.Prelude.{◌≡◌, ℕ, zero, suc, ◌-◌, ◌==◌, List, [], ◌∷◌, length, if◌then◌else◌, Result, Ok, Err}
use Rattle.pv_read.specs.Limits.{read_depth}
use Rattle.pv_read.specs.Results.{Fault, ◌>>=◌}
use Rattle.pv_binary.specs.Reading.{no_tag, atom_at, is_compound}
use Rattle.pv_binary.specs.Tags.{tag_of}
use Rattle.pv_binary.specs.declared.tag.Tag.{Tag}
use Rattle.pv_binary.specs.declared.tag.Tag.TheVariants as tag
use Rattle.pv_binary.specs.declared.faults.BinKind.{BinKind}
use Rattle.pv_binary.specs.declared.faults.BinKind.TheVariants as kind
use Rattle.pv_stream.specs.declared.stops.Stop.{Stop}
use Rattle.pv_stream.specs.declared.stops.Scan.{Scan}
use Rattle.pv_stream.specs.declared.stops.Scan.TheVariants as scan

-- the bytes behind what was read
abbrev pub past : {A E : Type 0} → Result (A × List ℕ) E → Result (List ℕ) E
past read = read >>= λ x. Ok x.1

-- the bytes behind a value, or the first fault and its place
abbrev pub Behind : Type 0
Behind = Result (List ℕ) (Fault BinKind)

-- values up to the end; k is at least the number of the bytes
abbrev pub past_end : ℕ → (List ℕ → Behind) → ℕ → List ℕ → Behind
past_end total inner zero bytes = Err (no_tag total)
past_end total inner (suc k) [] = Err (no_tag total)
past_end total inner (suc k) (b ∷ bytes) =
    if b == 0x84 then Ok bytes else (inner (b ∷ bytes) >>= past_end total inner k)

-- a key, and then its value
abbrev pub past_entry : (List ℕ → Behind) → List ℕ → Behind
past_entry inner bytes = inner bytes >>= inner

-- what stands behind the tag of a compound, whose values inner passes
unfoldable pub past_compound : ℕ → (List ℕ → Behind) → Tag → List ℕ → Behind
past_compound total inner tag.Embedded bytes = inner bytes
past_compound total inner tag.Record bytes = inner bytes >>= λ rest. past_end total inner (length rest) rest
past_compound total inner tag.Dictionary bytes = past_end total (past_entry inner) (length bytes) bytes
past_compound total inner t bytes = past_end total inner (length bytes) bytes

-- a value that nests at most d deep, where the bytes are the last of total bytes
unfoldable pub past_value : ℕ → ℕ → List ℕ → Behind
past_value total d [] = Err (no_tag total)
past_value total zero (b ∷ bytes) =
    let place = total - length (b ∷ bytes) in
    if is_compound (tag_of b) then Err (record { kind = kind.TooDeep; place = place })
    else past (atom_at place (tag_of b) bytes)
past_value total (suc d) (b ∷ bytes) =
    let place = total - length (b ∷ bytes) in
    if is_compound (tag_of b) then past_compound total (past_value total d) (tag_of b) bytes
    else past (atom_at place (tag_of b) bytes)

-- what a scan of so many bytes tells
abbrev pub stopped : BinKind → ℕ → Scan
stopped kind.Truncated place = scan.Part
stopped k place = scan.Fault k place

abbrev pub scanned : ℕ → Behind → Scan
scanned total (Ok rest) = scan.Whole (total - length rest)
scanned total (Err f) = stopped f.kind f.place

-- what a scan tells of the bytes
abbrev pub scan_of : List ℕ → Scan
scan_of bytes = scanned (length bytes) (past_value (length bytes) read_depth bytes)

-- ---- the code's answers

-- what is passed, or the stop, is what passing gives
abbrev pub Tells : {X : Type 0} → (X → List ℕ) → Result X Stop → Behind → Type 0
Tells view (Ok x) given = given ≡ Ok (view x)
Tells view (Err s) given = given ≡ Err (record { kind = s.kind; place = s.place })

-- the same of an atom at this place
abbrev pub stop_at : {X : Type 0} → ℕ → Result X BinKind → Result X Stop
stop_at place (Ok x) = Ok x
stop_at place (Err k) = Err (record { kind = k; place = place })
