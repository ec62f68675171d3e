-- Paths from a value to its parts, and what stands there.
use Rattle.std.specs.Prelude.{List, [], ◌∷◌, Option, Some, None, option_map, option_and_then}
use Rattle.pv_value.specs.Plain.{Plain, record_of, sequence, dictionary, plains}
use Rattle.pv_words.specs.Parts.{item_under, value_under}
pub use Rattle.ds_shape.specs.declared.paths.Step.{Step}
pub use Rattle.ds_shape.specs.declared.paths.Step.TheVariants.{Field, Item, Under}

-- the part to which a step leads
abbrev pub part_by : Step → Plain → Option Plain
part_by (Field place) (record_of l fs) = item_under fs place
part_by (Item place) (sequence xs) = item_under xs place
part_by (Under key) (dictionary ps) = value_under ps key
part_by s v = None

-- what stands at a path
abbrev pub part_at : List Step → Plain → Option Plain
part_at [] v = Some v
part_at (s ∷ path) v = option_and_then (part_at path) (part_by s v)

abbrev pub with_first : Option Plain → Option (List Plain) → Option (List Plain)
with_first (Some x) (Some xs) = Some (x ∷ xs)
with_first (Some x) None = None
with_first None xs = None

-- what stands at the paths, in order, or nothing where one is missing
abbrev pub parts_at : List (List Step) → Plain → Option (List Plain)
parts_at [] v = Some []
parts_at (path ∷ paths) v = with_first (part_at path v) (parts_at paths v)

-- the same as one value
abbrev pub sequence_at : List (List Step) → Plain → Option Plain
sequence_at paths v = option_map (λ xs. sequence (plains xs)) (parts_at paths v)
