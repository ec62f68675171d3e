-- The parts of a pattern: what it tests, its constants, and what it captures, each at a path from the value.
use Rattle.std.specs.Prelude.{List, [], ◌∷◌, ◌++◌, map}
use Rattle.pv_value.specs.Plain.{Plain, sequence, plains}
use Rattle.dp_pattern.specs.declared.Group.{Group}
use Rattle.dp_pattern.specs.declared.Group.TheVariants.{InRecord, InSequence, InDictionary}
use Rattle.dp_pattern.specs.Patterns.{Pattern, discard, bind, literal, group}
use Rattle.dp_pattern.specs.Patterns.{Fields, no_fields, then_field}
use Rattle.ds_shape.specs.Paths.{Step, Field, Item, Under}
use Rattle.ds_shape.specs.Outlines.{Any, Of, Test, Outline}
pub use Rattle.ds_shape.specs.declared.splitting.Constant.{Constant}

-- the step to the part that a key of the group names
abbrev pub step_of : Group → Plain → Step
step_of (InRecord label e) key = Field key
step_of (InSequence e) key = Item key
step_of InDictionary key = Under key

-- the same, seen from a value in which this path leads to the whole
abbrev pub test_under : List Step → Test → Test
test_under path t = record { path = path ++ t.path; kind = t.kind }

abbrev pub constant_under : List Step → Constant → Constant
constant_under path c = record { path = path ++ c.path; value = c.value }

-- `<_>` asks that something is there, and a group that it is of its kind
abbrev mutual
  pub tests : Pattern → List Test
  tests discard = record { path = []; kind = Any } ∷ []
  tests (bind p) = tests p
  tests (literal u) = []
  tests (group g fs) = record { path = []; kind = Of g } ∷ field_tests g fs

  pub field_tests : Group → Fields → List Test
  field_tests g no_fields = []
  field_tests g (then_field k p fs) = map (test_under (step_of g k ∷ [])) (tests p) ++ field_tests g fs

-- the literals
abbrev mutual
  pub constants : Pattern → List Constant
  constants discard = []
  constants (bind p) = constants p
  constants (literal u) = record { path = []; value = u } ∷ []
  constants (group g fs) = field_constants g fs

  pub field_constants : Group → Fields → List Constant
  field_constants g no_fields = []
  field_constants g (then_field k p fs) =
      map (constant_under (step_of g k ∷ [])) (constants p) ++ field_constants g fs

-- where there is a `<bind p>`, before those in it
abbrev mutual
  pub captures : Pattern → List (List Step)
  captures discard = []
  captures (bind p) = [] ∷ captures p
  captures (literal u) = []
  captures (group g fs) = field_captures g fs

  pub field_captures : Group → Fields → List (List Step)
  field_captures g no_fields = []
  field_captures g (then_field k p fs) = map (λ path. step_of g k ∷ path) (captures p) ++ field_captures g fs

-- all but the constants themselves
abbrev pub outline_of : Pattern → Outline
outline_of p = record { tests = tests p; constants = map (λ c. c.path) (constants p); captures = captures p }

-- the sequence of the constants
abbrev pub constants_of : Pattern → Plain
constants_of p = sequence (plains (map (λ c. c.value) (constants p)))
