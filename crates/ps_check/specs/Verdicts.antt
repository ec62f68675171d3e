-- What was found of the names of a schema, at values.
use Rattle.std.specs.Prelude.{◌≡◌, ℕ, Bool, List, Some}
use Rattle.std.specs.Ordering.{ordering_then, nat_cmp}
use Rattle.std.specs.declared.cmp.Ordering.{Ordering}
use Rattle.std.specs.BTreeMap as tree
use Rattle.std.specs.BTreeMap.{BTreeMap}
use Rattle.pv_value.specs.Plain.{Plain}
use Rattle.pv_value.specs.Order.{order}
use Rattle.ps_schema.specs.Conforms.{conforms}
use Rattle.ps_schema.specs.Places.{name_of}
use Rattle.ps_schema.specs.declared.Definition.{Definition}
use Rattle.ps_check.specs.Subjects.{in_fields}
use Rattle.ps_check.specs.declared.verdicts.Verdicts.{Verdicts}

-- the order of places and values
abbrev pub place_order : ℕ × Plain → ℕ × Plain → Ordering
place_order j k = ordering_then (nat_cmp j.0 k.0) (order j.1 k.1)

-- what the table has at a place and a value is so
abbrev pub Tells : (ℕ → Plain → Bool) → BTreeMap (ℕ × Plain) Bool → Type 0
Tells found table = (i : ℕ) (v : Plain) (b : Bool) → tree.get place_order table (i, v) ≡ Some b → b ≡ found i v

-- what was found is so
pub record AreRight (ds : List Definition) (found : Verdicts) : Type 0 where
  pub wholes : Tells (λ i v. conforms ds (name_of ds i) v) found.wholes
  pub fields : Tells (λ i v. conforms ds (name_of ds i) (in_fields v)) found.fields
