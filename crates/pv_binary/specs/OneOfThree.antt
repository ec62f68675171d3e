-- Each list of bytes begins with a value, or is a front of one, or has one fault at one place. Values are spelled as in
-- the Preserves binary specification; the faults are the project's own.
use Rattle.std.specs.Prelude.{◌≡◌, ℕ, ◌<◌, ◌⊎◌, List, length, drop, Ok, Err}
use Rattle.std.specs.List.{All}
use Rattle.pv_value.specs.Plain.{Plain}
use Rattle.pv_read.specs.Limits.{read_depth}
use Rattle.pv_read.specs.Results.{Fault}
use Rattle.pv_binary.specs.Reads.{BeginsWith}
use Rattle.pv_binary.specs.Fronts.{Front, truncated, Stands}
use Rattle.pv_binary.specs.Reading.{value_at}
use Rattle.pv_binary.specs.declared.faults.BinKind.{BinKind}

abbrev pub AreBytes : List ℕ → Type 0
AreBytes bytes = All (λ b. b < 256) bytes

-- a front of the bytes spells a value that nests no deeper than is read
abbrev pub HasValue : List ℕ → Type 0
HasValue bytes = (n : ℕ) × (v : Plain) × BeginsWith bytes n v

-- the bytes begin a value and end before it does
abbrev pub IsFront : List ℕ → Type 0
IsFront bytes = (path : List ℕ) × Front bytes path

abbrev pub HasFault : List ℕ → Type 0
HasFault bytes = (f : Fault BinKind) × Stands bytes f

abbrev pub IsOneOfThree : List ℕ → Type 0
IsOneOfThree bytes = HasValue bytes ⊎ (IsFront bytes ⊎ HasFault bytes)

-- no two of the three hold
pub record ExcludeOneAnother (bytes : List ℕ) : Type 0 where
  pub value_and_front : HasValue bytes → IsFront bytes → ⊥
  pub value_and_fault : HasValue bytes → HasFault bytes → ⊥
  pub front_and_fault : IsFront bytes → HasFault bytes → ⊥

-- there is one value, one list of places that are open, one fault at one place
pub record AreUnique (bytes : List ℕ) : Type 0 where
  pub value : (m n : ℕ) (v w : Plain) → BeginsWith bytes m v → BeginsWith bytes n w → (m ≡ n) × (v ≡ w)
  pub front : (path way : List ℕ) → Front bytes path → Front bytes way → path ≡ way
  pub fault : (f g : Fault BinKind) → Stands bytes f → Stands bytes g → f ≡ g

abbrev pub OneOfThreeHolds : List ℕ → Type 0
OneOfThreeHolds bytes = IsOneOfThree bytes × ExcludeOneAnother bytes × AreUnique bytes

-- what reading gives of each of the three
pub record ReadingTells (bytes : List ℕ) : Type 0 where
  pub value : (n : ℕ) (v : Plain) → BeginsWith bytes n v → value_at (length bytes) read_depth bytes ≡ Ok (v, drop n bytes)
  pub front : (path : List ℕ) → Front bytes path → value_at (length bytes) read_depth bytes ≡ Err (truncated bytes path)
  pub fault : (f : Fault BinKind) → Stands bytes f → value_at (length bytes) read_depth bytes ≡ Err f
