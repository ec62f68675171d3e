-- What bytes begin with, and what stops the reading of a value. The bound on nesting is the project's own.
use Rattle.std.specs.Prelude.{◌≡◌, ℕ, ◌≤◌, ◌⊎◌, List, length, take, drop}
use Rattle.pv_value.specs.Plain.{Plain}
use Rattle.pv_value.specs.Depth.{depth}
use Rattle.pv_read.specs.Limits.{read_depth}
use Rattle.pv_read.specs.Results.{Fault}
use Rattle.pv_binary.specs.Spells.{Spells}
use Rattle.pv_binary.specs.Fronts.{Front, truncated, Stands}
use Rattle.pv_binary.specs.declared.faults.BinKind.{BinKind}

-- the first n bytes spell v, which nests no deeper than is read
abbrev pub BeginsWith : List ℕ → ℕ → Plain → Type 0
BeginsWith bytes n v = (n ≤ length bytes) × Spells (take n bytes) v × (depth v ≤ read_depth)

-- the bytes begin with v, after which more is left; LeadsOver of pv_read says it of values one behind another
abbrev pub Leads : List ℕ → Plain → List ℕ → Type 0
Leads bytes v more = (n : ℕ) × BeginsWith bytes n v × (more ≡ drop n bytes)

-- the bytes begin with v, which nests at most d deep, after which more is left
abbrev pub LeadsWithin : ℕ → List ℕ → Plain → List ℕ → Type 0
LeadsWithin d bytes v more = (n : ℕ) × (n ≤ length bytes) × Spells (take n bytes) v × (depth v ≤ d)
    × (more ≡ drop n bytes)

-- what stops the reading of a value: the bytes end within it, or a fault stands
abbrev pub Stops : List ℕ → Fault BinKind → Type 0
Stops bytes f = ((path : List ℕ) × Front bytes path × (f ≡ truncated bytes path)) ⊎ Stands bytes f
