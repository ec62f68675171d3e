-- Where bytes that spell no value stop: in the midst of a value, or at a fault. By tags, counts and levels, and by the
-- values that are there: a String's, Symbol's or integer's bytes count once they are all there, and elements that
-- repeat at the end of their set or dictionary. Preserves binary specification; the faults and their places are the
-- project's own.
use Rattle.std.specs.Prelude.{◌≡◌, ◌≢◌, ℕ, zero, suc, ◌+◌, ◌^◌, ◌<◌, ◌≤◌, ◌⊎◌, Bool, true, false, not, IsTrue, IsFalse}
use Rattle.std.specs.Prelude.{List, [], ◌∷◌, ◌++◌, length, map, slice_index, if◌then◌else◌}
use Rattle.std.specs.Str.{IsUtf8}
use Rattle.std.specs.List.{concat}
use Rattle.pv_value.specs.Plain.{Plain, plains}
use Rattle.pv_value.specs.Depth.{deepest}
use Rattle.pv_value.specs.Sets.{AreDistinct}
use Rattle.pv_read.specs.Limits.{read_depth}
use Rattle.pv_read.specs.Results.{Fault}
use Rattle.pv_binary.specs.Numbers.{varint}
use Rattle.pv_binary.specs.Tags.{tag_of}
use Rattle.pv_binary.specs.Spells.{Pieces}
use Rattle.pv_binary.specs.Reading.{is_compound, is_minimal}
use Rattle.pv_binary.specs.declared.tag.Tag.{Tag}
use Rattle.pv_binary.specs.declared.tag.Tag.TheVariants as tag
use Rattle.pv_binary.specs.declared.faults.BinKind.{BinKind}
use Rattle.pv_binary.specs.declared.faults.BinKind.TheVariants as kind

-- ---- compounds that are open

-- the place and the byte of its tag, and the values that stand in it so far
pub record Open : Type 0 where
  pub place : ℕ
  pub byte : ℕ
  pub values : List Plain

abbrev pub tag_at : Open → Tag
tag_at o = tag_of o.byte

-- an embedded value is over as soon as the value in it is there
abbrev pub IsUnfilled : Tag → List Plain → Type 0
IsUnfilled tag.Embedded vs = vs ≡ []
IsUnfilled t vs = Unit {0}

-- it was opened behind `front`, inside the outer ones, and its values nest no deeper than is read
pub record IsOpen (o : Open) (outer : List Open) (front : List ℕ) : Type 0 where
  pub place : o.place ≡ length front
  pub compound : IsTrue (is_compound (tag_at o))
  pub unfilled : IsUnfilled (tag_at o) o.values
  pub level : length outer < read_depth
  pub shallow : deepest (plains o.values) + suc (length outer) ≤ read_depth

-- the bytes are the tags of these compounds, the innermost first in the list, each with its values behind it
abbrev pub Opens : List ℕ → List Open → Type 0
Opens b [] = b ≡ []
Opens b (o ∷ outer) = (front : List ℕ) × (ps : List (List ℕ)) × Opens front outer × IsOpen o outer front
    × Pieces ps (plains o.values) × (b ≡ front ++ o.byte ∷ concat ps)

abbrev pub is_even : ℕ → Bool
is_even zero = true
is_even (suc n) = not (is_even n)

-- whether the end may stand where the next value of the innermost compound is due
abbrev pub may_end_in : Tag → List Plain → Bool
may_end_in tag.Record [] = false
may_end_in tag.Record (v ∷ vs) = true
may_end_in tag.Sequence vs = true
may_end_in tag.Set vs = true
may_end_in tag.Dictionary vs = is_even (length vs)
may_end_in t vs = false

abbrev pub may_end : List Open → Bool
may_end [] = false
may_end (o ∷ outer) = may_end_in (tag_at o) o.values

-- every second value from the first
abbrev mutual
  pub keys_in : List Plain → List Plain
  keys_in [] = []
  keys_in (k ∷ vs) = k ∷ past_value vs

  pub past_value : List Plain → List Plain
  past_value [] = []
  past_value (v ∷ vs) = keys_in vs

-- the innermost compound is a set with equal elements, or a dictionary with equal keys
abbrev pub Repeats : Tag → List Plain → Type 0
Repeats tag.Set vs = AreDistinct vs → ⊥
Repeats tag.Dictionary vs = AreDistinct (keys_in vs) → ⊥
Repeats t vs = ⊥

-- ---- counts

-- the bytes begin a count below 2 ^ 64 in its shortest form, and end before it does
abbrev pub IsCountFront : List ℕ → Type 0
IsCountFront c = (n : ℕ) × (d : List ℕ) × (n < 2 ^ 64) × (d ≢ []) × (varint n ≡ c ++ d)

-- a front of the bytes is neither such a count, nor begins one, nor goes on from one
abbrev pub IsNoCount : List ℕ → Type 0
IsNoCount s = (c : List ℕ) × (r : List ℕ) × (s ≡ c ++ r)
    × ((n : ℕ) (d : List ℕ) → n < 2 ^ 64 → (varint n ≡ c ++ d → ⊥) × (c ≡ varint n ++ d → ⊥))

-- the bytes begin with the count n, behind which s follows
abbrev pub IsCounted : List ℕ → ℕ → List ℕ → Type 0
IsCounted bytes n s = (n < 2 ^ 64) × (bytes ≡ varint n ++ s)

-- ---- atoms that are cut off; the bytes stand behind the tag

abbrev pub IsCutCounted : List ℕ → Type 0
IsCutCounted bytes = IsCountFront bytes ⊎ ((n : ℕ) × (s : List ℕ) × IsCounted bytes n s × (length s < n))

abbrev pub IsCut : Tag → List ℕ → Type 0
IsCut tag.Double bytes = (bytes ≡ []) ⊎ ((s : List ℕ) × (bytes ≡ 8 ∷ s) × (length s < 8))
IsCut tag.Integer bytes =
    IsCountFront bytes ⊎ ((n : ℕ) × (s : List ℕ) × IsCounted bytes n s × (length s < n) × (n ≤ 16))
IsCut tag.String bytes = IsCutCounted bytes
IsCut tag.ByteString bytes = IsCutCounted bytes
IsCut tag.Symbol bytes = IsCutCounted bytes
IsCut t bytes = ⊥

-- ---- faults of an atom; the bytes stand behind the tag

abbrev pub IsBadText : List ℕ → Type 0
IsBadText bytes = (n : ℕ) × (s : List ℕ) × (r : List ℕ) × IsCounted bytes n (s ++ r) × (length s ≡ n)
    × (IsUtf8 s → ⊥)

abbrev pub IsLongInteger : List ℕ → Type 0
IsLongInteger bytes = (n : ℕ) × (s : List ℕ) × (r : List ℕ) × IsCounted bytes n (s ++ r) × (length s ≡ n) × (n ≤ 16)
    × IsFalse (is_minimal s)

abbrev pub IsWideInteger : List ℕ → Type 0
IsWideInteger bytes = (n : ℕ) × (s : List ℕ) × IsCounted bytes n s × (16 < n)

abbrev pub AtomFault : Tag → List ℕ → BinKind → Type 0
AtomFault tag.Double bytes kind.BadTag = (b : ℕ) × (s : List ℕ) × (bytes ≡ b ∷ s) × (b ≢ 8)
AtomFault tag.Integer bytes kind.LongVarint = IsNoCount bytes
AtomFault tag.Integer bytes kind.TooWide = IsWideInteger bytes
AtomFault tag.Integer bytes kind.LongInteger = IsLongInteger bytes
AtomFault tag.String bytes kind.LongVarint = IsNoCount bytes
AtomFault tag.String bytes kind.BadUtf8 = IsBadText bytes
AtomFault tag.ByteString bytes kind.LongVarint = IsNoCount bytes
AtomFault tag.Symbol bytes kind.LongVarint = IsNoCount bytes
AtomFault tag.Symbol bytes kind.BadUtf8 = IsBadText bytes
AtomFault t bytes k = ⊥

-- ---- fronts of the whole

-- the bytes end where a tag is due, or inside the atom behind the open compounds; cut is the place of such an atom
pub data EndsAt : List ℕ → List ℕ → List ℕ → Type 0 where
  at_tag : (front : List ℕ) → EndsAt front [] []
  inside_atom : (front : List ℕ) (t : ℕ) (bytes : List ℕ) → IsCut (tag_of t) bytes
      → EndsAt front (t ∷ bytes) (length front ∷ [])

-- the bytes begin a value and end before it does; path lists the places of all values that are open, the innermost
-- first, an atom that is cut off among them
abbrev pub Front : List ℕ → List ℕ → Type 0
Front b path = (front : List ℕ) × (tail : List ℕ) × (open_ : List Open) × (cut : List ℕ) × (b ≡ front ++ tail)
    × Opens front open_ × EndsAt front tail cut × (path ≡ cut ++ map (λ (o : Open). o.place) open_)

-- where the end of the bytes is told: behind them where a tag is due, as where no value is open or the innermost one is
-- a compound, and else at the innermost value
abbrev pub truncated_place : List ℕ → List ℕ → ℕ
truncated_place bytes [] = length bytes
truncated_place bytes (place ∷ outer) = if is_compound (tag_of (slice_index bytes place)) then length bytes else place

-- the fault of a front
abbrev pub truncated : List ℕ → List ℕ → Fault BinKind
truncated bytes path = record { kind = kind.Truncated; place = truncated_place bytes path }

-- ---- faults of the whole

-- what stands behind the open compounds is a fault, at this place
pub data FaultAt : List ℕ → List Open → List ℕ → BinKind → ℕ → Type 0 where
  too_deep : (front : List ℕ) (os : List Open) (t : ℕ) (r : List ℕ) → IsTrue (is_compound (tag_of t))
      → length os ≡ read_depth → FaultAt front os (t ∷ r) kind.TooDeep (length front)
  bad_tag : (front : List ℕ) (os : List Open) (t : ℕ) (r : List ℕ) → tag_of t ≡ tag.Other
      → (t ≡ 0x84 → IsFalse (may_end os)) → FaultAt front os (t ∷ r) kind.BadTag (length front)
  bad_atom : (front : List ℕ) (os : List Open) (t : ℕ) (r : List ℕ) (k : BinKind) → AtomFault (tag_of t) r k
      → FaultAt front os (t ∷ r) k (length front)
  repeated : (front : List ℕ) (o : Open) (os : List Open) (r : List ℕ) → IsTrue (may_end (o ∷ os))
      → Repeats (tag_at o) o.values → FaultAt front (o ∷ os) (0x84 ∷ r) kind.Duplicate o.place

-- the bytes begin no value, since this fault stands in them
abbrev pub Stands : List ℕ → Fault BinKind → Type 0
Stands b f = (front : List ℕ) × (tail : List ℕ) × (os : List Open) × (b ≡ front ++ tail) × Opens front os
    × FaultAt front os tail f.kind f.place
