-- Laws of what is wanted.
use Rattle.std.specs.Prelude.{◌≡◌, ◌↔◌, List, [], ◌++◌, map, Some, Contains}
use Rattle.pv_value.specs.Plain.{Plain}
use Rattle.pv_value.specs.WellFormed.{Ascend}
use Rattle.dp_pattern.specs.Patterns.{Pattern}
use Rattle.dp_pattern.specs.Matching.{matched}
use Rattle.ds_space.specs.Changes.{Change, Left, Came, AreChanges, without}
use Rattle.ds_space.specs.Wants.{observer_of, key_of, wants}

abbrev pub WantsAscend : Type 0
WantsAscend = (vs : List Plain) → Ascend (wants vs)

abbrev pub NothingOfNothing : Type 0
NothingOfNothing = wants [] ≡ []

-- among the values is an observation of a pattern, and one whose captures by it are these; k is the key of the two
pub record IsOfTheRule (vs : List Plain) (k : Plain) : Type 0 where
  pub observation : Plain
  pub observes : Contains vs observation
  pub pattern : Pattern
  pub is_pattern : observer_of observation ≡ Some pattern
  pub value : Plain
  pub stands : Contains vs value
  pub captures : List Plain
  pub captured : matched pattern value ≡ Some captures
  pub key : k ≡ key_of observation captures

-- the wanted keys are exactly those of the rule
abbrev pub WantsAreTheRule : Type 0
WantsAreTheRule = (vs : List Plain) (k : Plain) → Contains (wants vs) k ↔ IsOfTheRule vs k

-- the changes are fixed by what is wanted before and after: the keys of the one list that aren't in the other
abbrev pub ChangesAreExact : Type 0
ChangesAreExact =
    (old new : List Plain) (cs : List Change) → AreChanges old new cs
    → cs ≡ map Left (without (wants old) (wants new)) ++ map Came (without (wants new) (wants old))
