-- Laws of the index, in the words of patterns.
use Rattle.std.specs.Prelude.{◌≡◌, ℕ, nat_lt, Bool, true, false, List, Option, Some, None}
use Rattle.pv_value.specs.Plain.{Plain, sequence, plains}
use Rattle.pv_words.specs.Parts.{same}
use Rattle.dp_pattern.specs.Patterns.{Pattern}
use Rattle.dp_pattern.specs.Matching.{matched}
use Rattle.ds_shape.specs.Splitting.{outline_of, constants_of}
use Rattle.ds_space.specs.Changes.{among}
use Rattle.ds_space.specs.Wants.{observer_of, wanted}
use Rattle.ds_skeleton.specs.Places.{count}
use Rattle.ds_skeleton.specs.Leaves.{captured_at}
use Rattle.ds_skeleton.specs.Shapes.{Shape, leaf_of}
use Rattle.ds_skeleton.specs.Indexes.{IsIndex}
use Rattle.ds_skeleton.specs.Keys.{key_value}

-- c is the sequence of what was captured
abbrev pub is_captures : Plain → Option (List Plain) → Bool
is_captures c None = false
is_captures c (Some cs) = same c (sequence (plains cs))

-- how many values the index has counted under the capture list c, where observations of the pattern p have their place
abbrev pub counted : List Shape → Pattern → Plain → ℕ
counted shapes p c = captured_at (leaf_of shapes (record { outline = outline_of p; constants = constants_of p })) c

-- in an index of distinct values, where an observation is among them: the count of a capture list is the number of the
-- values of which its pattern captures that list
abbrev pub LeavesCountCaptures : Type 0
LeavesCountCaptures =
    (vs : List Plain) (shapes : List Shape) → IsIndex vs shapes
    → (o : Plain) (p : Pattern) → among o vs ≡ true → observer_of o ≡ Some p
    → (c : Plain) → counted shapes p c ≡ count (λ v. is_captures c (matched p v)) vs

-- and the key of the two is wanted exactly where the count isn't 0
abbrev pub CountsAreWants : Type 0
CountsAreWants =
    (vs : List Plain) (shapes : List Shape) → IsIndex vs shapes
    → (o : Plain) (p : Pattern) → among o vs ≡ true → observer_of o ≡ Some p
    → (c : Plain) → wanted vs (key_value (record { key = o; value = c })) ≡ nat_lt 0 (counted shapes p c)
