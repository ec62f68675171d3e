-- Laws of the definitions.
use Rattle.std.specs.Prelude.{◌≡◌, ℕ, false, List, [], ◌∷◌, ◌++◌, length, Some, option_and_then}
use Rattle.pv_value.specs.Plain.{Plain}
use Rattle.ps_schema.specs.Names.{knows}
use Rattle.ps_schema.specs.Conforms.{conforms}
use Rattle.ps_schema.specs.declared.Definition.{Definition}
use Rattle.sr_caveat.specs.Patterns.{Pattern, Caveat}
use Rattle.sr_caveat.specs.Written.{binds}
use Rattle.sr_pass.specs.Binding.{bound}
use Rattle.sr_pass.specs.Passing.{passed}

-- the newest caveat comes first, and the older ones see what it gives
abbrev pub NewestComesFirst : Type 0
NewestComesFirst = (ds : List Definition) (old : List Caveat) (new : Caveat) (v : Plain)
    → passed ds (old ++ new ∷ []) v ≡ option_and_then (passed ds old) (passed ds (new ∷ []) v)

-- what passes a reference with further caveats is what the older ones make of some value
abbrev pub AttenuatingNarrows : Type 0
AttenuatingNarrows = (ds : List Definition) (old new : List Caveat) (v w : Plain)
    → passed ds (old ++ new) v ≡ Some w → (u : Plain) × (passed ds old u ≡ Some w)

-- where a value matches, as many values are bound as the pattern binds
abbrev pub BindingsAreBinds : Type 0
BindingsAreBinds = (p : Pattern) (v : Plain) (bs : List Plain) → bound p v ≡ Some bs → length bs ≡ binds p

-- under a name that the schema doesn't define a guard refuses: nothing conforms to it
abbrev pub UnknownIsRefused : Type 0
UnknownIsRefused = (ds : List Definition) (a : List ℕ) (v : Plain) → knows ds a ≡ false → conforms ds a v ≡ false
