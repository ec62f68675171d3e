-- Laws of shapes.
use Rattle.std.specs.Prelude.{◌≡◌, ◌↔◌, List, map, Some}
use Rattle.std.specs.Cmp.{IsTotalOrder}
use Rattle.std.specs.declared.cmp.Ordering.TheVariants.{Equal}
use Rattle.pv_value.specs.Plain.{Plain}
use Rattle.dp_pattern.specs.Patterns.{Pattern}
use Rattle.dp_pattern.specs.Matching.{matched}
use Rattle.ds_shape.specs.Paths.{Step, part_at, parts_at}
use Rattle.ds_shape.specs.Outlines.{Outline}
use Rattle.ds_shape.specs.Keys.{outline_value, outline_order}
use Rattle.ds_shape.specs.Splitting.{outline_of, constants_of}
use Rattle.ds_shape.specs.Standing.{Says}

-- a pattern captures these exactly where its parts say so
abbrev pub ShapesSayPatterns : Type 0
ShapesSayPatterns =
    (p : Pattern) (v : Plain) (cs : List Plain)
    → (matched p v ≡ Some cs) ↔ Says (outline_of p) (constants_of p) v cs

-- what stands at paths is what stands at each of them, in order
abbrev pub PartsAreInOrder : Type 0
PartsAreInOrder =
    (paths : List (List Step)) (v : Plain) (xs : List Plain)
    → (parts_at paths v ≡ Some xs) ↔ (map (λ path. part_at path v) paths ≡ map Some xs)

-- of two patterns with one outline that match a value, both have the same constants and capture the same
abbrev pub ConstantsTell : Type 0
ConstantsTell =
    (p q : Pattern) (v : Plain) (cs ds : List Plain) → outline_of p ≡ outline_of q → matched p v ≡ Some cs
    → (matched q v ≡ Some ds) ↔ ((constants_of p ≡ constants_of q) × (cs ≡ ds))

-- only equal outlines have the same value
abbrev pub KeysTellOutlines : Type 0
KeysTellOutlines = (o p : Outline) → outline_value o ≡ outline_value p → o ≡ p

-- the order is total, and only an outline itself is equal to it
pub record OutlinesAreInOrder : Type 0 where
  pub total : IsTotalOrder outline_order
  pub same : (o p : Outline) → outline_order o p ≡ Equal → o ≡ p
