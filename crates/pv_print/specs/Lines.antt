-- Printed values, a line each.
use Rattle.std.specs.Prelude.{ℕ, List, [], ◌∷◌, ◌++◌, ◌≤◌}
use Rattle.std.specs.List.{flat_map, AllByRecursion}
use Rattle.pv_value.specs.Plain.{Plain}
use Rattle.pv_value.specs.Depth.{depth}
use Rattle.pv_value.specs.WellFormed.{IsWellFormed}
use Rattle.pv_read.specs.Limits.{read_depth}
use Rattle.pv_print.specs.Printed.{printed}

abbrev pub line : Plain → List ℕ
line v = printed v ++ 10 ∷ []

abbrev pub lines : List Plain → List ℕ
lines vs = flat_map line vs

-- each nests no deeper than is read
abbrev pub AreReadable : List Plain → Type 0
AreReadable vs = AllByRecursion (λ v. IsWellFormed v × (depth v ≤ read_depth)) vs
