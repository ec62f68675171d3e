-- What is captured of a value that is known to match: the code finds first whether it does, and copies then.
use Rattle.std.specs.Prelude.{List, [], ◌∷◌, ◌++◌, option_map, unwrap_or}
use Rattle.pv_value.specs.Plain.{Plain}
use Rattle.dp_pattern.specs.Patterns.{Group, Pattern, discard, bind, literal, group, Fields, no_fields, then_field}
use Rattle.dp_pattern.specs.Matching.{part_of}

abbrev mutual
  pub gathered : Pattern → Plain → List Plain
  gathered discard v = []
  gathered (bind p) v = v ∷ gathered p v
  gathered (literal u) v = []
  gathered (group g fs) v = gathered_fields g fs v

  pub gathered_fields : Group → Fields → Plain → List Plain
  gathered_fields g no_fields v = []
  gathered_fields g (then_field k p fs) v =
      unwrap_or (option_map (gathered p) (part_of g v k)) [] ++ gathered_fields g fs v
