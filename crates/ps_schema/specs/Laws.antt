-- Laws of the definitions.
use Rattle.std.specs.Prelude.{◌≡◌, ℕ, zero, suc, true, List, length, Some}
use Rattle.ps_schema.specs.Patterns.{PlainPattern}
use Rattle.ps_schema.specs.Names.{pattern_under}
use Rattle.ps_schema.specs.Schemas.{asks, IsSchema, IsRefused}
use Rattle.ps_schema.specs.declared.Definition.{Definition}
use Rattle.ps_schema.specs.declared.faults.SchemaFault.{SchemaFault}
use Rattle.ps_schema.specs.declared.faults.SchemaFault.TheVariants.{NoMemory}

-- each way from the pattern's names at one value ends within so many names
abbrev pub EndsWithin : List Definition → ℕ → PlainPattern → Type 0
EndsWithin ds zero p = (a : List ℕ) → asks p a ≡ true → ⊥
EndsWithin ds (suc k) p =
    (a : List ℕ) (q : PlainPattern) → asks p a ≡ true → pattern_under ds a ≡ Some q → EndsWithin ds k q

-- in a schema each way at one value ends within as many names as there are
abbrev pub WaysEnd : Type 0
WaysEnd = (ds : List Definition) → IsSchema ds → (a : List ℕ) (p : PlainPattern)
    → pattern_under ds a ≡ Some p → EndsWithin ds (length ds) p

-- definitions that are refused are no schema
abbrev pub RefusedIsNone : Type 0
RefusedIsNone = (ds : List Definition) (f : SchemaFault) → (f ≡ NoMemory → ⊥) → IsRefused ds f → IsSchema ds → ⊥
