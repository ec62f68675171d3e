-- What patterns have in common that differ in their constants alone.
use Rattle.std.specs.Prelude.{Bool, true, false, List, Option, Some, None}
use Rattle.pv_value.specs.Plain.{Plain}
use Rattle.dp_pattern.specs.Matching.{is_of}
use Rattle.ds_shape.specs.Paths.{Step, part_at}
pub use Rattle.ds_shape.specs.declared.outlines.Kind.{Kind}
pub use Rattle.ds_shape.specs.declared.outlines.Kind.TheVariants.{Any, Of}
pub use Rattle.ds_shape.specs.declared.outlines.Test.{Test}

-- tests, the paths at which constants are to stand, and those at which values are captured, in order
pub record Outline : Type 0 where
  pub tests : List Test
  pub constants : List (List Step)
  pub captures : List (List Step)

abbrev pub is_kind : Kind → Plain → Bool
is_kind Any v = true
is_kind (Of g) v = is_of g v

abbrev pub is_there : Kind → Option Plain → Bool
is_there k (Some v) = is_kind k v
is_there k None = false

-- at the test's path something stands, and is of its kind
abbrev pub passes : Plain → Test → Bool
passes v t = is_there t.kind (part_at t.path v)
