-- How far the bytes of a value are looked at that isn't whole yet: these compounds are open at this place.
use Rattle.std.specs.Prelude.{◌≡◌, ℕ, ◌+◌, ◌<◌, ◌≤◌, ◌⊎◌, List, [], ◌∷◌, ◌++◌, length, take, drop}
use Rattle.std.specs.Prelude.{slice_index, slice_range}
use Rattle.pv_value.specs.Plain.{Plain}
use Rattle.pv_value.specs.Depth.{depth}
use Rattle.pv_read.specs.Limits.{read_depth}
use Rattle.pv_binary.specs.Spells.{Spells}
use Rattle.pv_binary.specs.Reads.{BeginsWith}
use Rattle.pv_binary.specs.Tags.{tag_of}
use Rattle.pv_binary.specs.Fronts.{Open, Opens, IsCut}
use Rattle.pv_binary.specs.OneOfThree.{IsFront}
use Rattle.pv_binary.specs.declared.faults.BinKind.{BinKind}
use Rattle.pv_binary.specs.declared.faults.BinKind.TheVariants.{Truncated}
use Rattle.pv_stream.specs.declared.walks.Level.{Level}
use Rattle.pv_stream.specs.declared.walks.Step.{Step}
use Rattle.pv_stream.specs.declared.walks.Step.TheVariants.{To, Waits, Looks}

-- the place and the byte of the tag of each compound that is open, the innermost last
abbrev pub level_of : Open → Level
level_of o = record { place = o.place; byte = o.byte }

abbrev pub levels_of : List Open → List Level
levels_of [] = []
levels_of (o ∷ os) = levels_of os ++ level_of o ∷ []

-- the bytes up to this place are the tags of these compounds, each with its values behind it
abbrev pub IsAt : List ℕ → ℕ → List Level → Type 0
IsAt left place levels =
    (os : List Open) × (place ≤ length left) × Opens (take place left) os × (levels ≡ levels_of os)

-- these bytes spell a value that may stand inside so many compounds
abbrev pub IsValue : List ℕ → ℕ → Type 0
IsValue bytes outer = (v : Plain) × Spells bytes v × (depth v + outer ≤ read_depth)

abbrev pub IsFound : List ℕ → ℕ → ℕ → ℕ → Type 0
IsFound left from to outer = (from ≤ to) × (to ≤ length left) × IsValue (slice_range left from to) outer

-- the first so many bytes spell a value that nests no deeper
abbrev pub IsMeasured : List ℕ → ℕ → ℕ → Type 0
IsMeasured bytes size deep = (v : Plain) × BeginsWith bytes size v × (depth v ≤ deep)

-- an atom stands from one place to another: a value that may stand inside as many compounds as are read
abbrev pub IsAtom : List ℕ → ℕ → ℕ → Type 0
IsAtom left from to = (from < to) × IsFound left from to read_depth

-- where the fault is that the bytes end, they end inside the atom at this place
abbrev pub IsCutWhere : List ℕ → ℕ → BinKind → Type 0
IsCutWhere left place Truncated = IsCut (tag_of (slice_index left place)) (drop (place + 1) left)
IsCutWhere left place kind = Unit {0}

-- a sequence, or a record in which a byte stands before this place
abbrev pub IsListed : Level → ℕ → Type 0
IsListed level place = (level.byte ≡ 0xb5) ⊎ ((level.byte ≡ 0xb4) × (level.place + 1 < place))

-- ---- how it goes on

abbrev pub GoesTo : List ℕ → ℕ → List Level → Step → Type 0
GoesTo left to levels (To next) = (next ≡ to) × IsAt left to levels
GoesTo left to levels Waits = ⊥
GoesTo left to levels Looks = Unit {0}

abbrev pub Goes : List ℕ → ℕ → List Level → Step → Type 0
Goes left place levels (To next) = (place < next) × IsAt left next levels
Goes left place levels Waits = IsAt left place levels × IsFront left
Goes left place levels Looks = Unit {0}
