-- Which values bytes are the canonical form of, as records of bindings have them.
use Rattle.std.specs.Prelude.{◌≡◌, ℕ, ◌≤◌, false, List, Option, Some, None}
use Rattle.pv_value.specs.Plain.{Plain, Plains, sequence}
use Rattle.pv_value.specs.Depth.{depth}
use Rattle.pv_value.specs.WellFormed.{IsWellFormed}
use Rattle.pv_read.specs.Limits.{read_depth}
use Rattle.pv_canon.specs.Canonical.{canonical}
use Rattle.sr_caveat.specs.Embedded.{has_embedded}

-- the bytes are the canonical form of this value, which nests no deeper than is read
pub record IsFormOf (bytes : List ℕ) (v : Plain) : Type 0 where
  pub well_formed : IsWellFormed v
  pub shallow : depth v ≤ read_depth
  pub form : bytes ≡ canonical v

-- and nothing is embedded in it
abbrev pub IsBareFormOf : List ℕ → Plain → Type 0
IsBareFormOf bytes v = IsFormOf bytes v × (has_embedded v ≡ false)

-- the items of a sequence
abbrev pub sequence_in : Plain → Option Plains
sequence_in (sequence xs) = Some xs
sequence_in v = None
