-- Laws of the definitions.
use Rattle.std.specs.Prelude.{◌≡◌, ℕ, suc, ◌+◌, List, length, Some}
use Rattle.pv_value.specs.Plain.{Plain}
use Rattle.dp_pattern.specs.Patterns.{Pattern, discard, bind, literal, group, Fields, no_fields, then_field}
use Rattle.dp_pattern.specs.Matching.{matched}

abbrev mutual
  pub binds : Pattern → ℕ
  binds discard = 0
  binds (bind p) = suc (binds p)
  binds (literal u) = 0
  binds (group g fs) = field_binds fs

  pub field_binds : Fields → ℕ
  field_binds no_fields = 0
  field_binds (then_field k p fs) = binds p + field_binds fs

-- a pattern captures as many values as it has binds
abbrev pub CapturesAreBinds : Type 0
CapturesAreBinds = (p : Pattern) (v : Plain) (cs : List Plain) → matched p v ≡ Some cs → length cs ≡ binds p
