-- Laws of conformance.
use Rattle.std.specs.Prelude.{◌≡◌, ℕ, Bool, List}
use Rattle.pv_value.specs.Plain.{Plain}
use Rattle.ps_schema.specs.Schemas.{IsSchema}
use Rattle.ps_schema.specs.Conforms.{conforms, IsMeaning}
use Rattle.ps_schema.specs.declared.Definition.{Definition}

-- names that mean what conforms to them mean what their definitions say
abbrev pub HasMeaning : Type 0
HasMeaning = (ds : List Definition) → IsSchema ds → IsMeaning ds (conforms ds)

-- and nothing else does
abbrev pub OneMeaning : Type 0
OneMeaning = (ds : List Definition) → IsSchema ds → (named : List ℕ → Plain → Bool) → IsMeaning ds named
    → (a : List ℕ) (v : Plain) → named a v ≡ conforms ds a v
