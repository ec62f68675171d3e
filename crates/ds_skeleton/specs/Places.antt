-- Where an observation has its place in the index, and what a value has there. The captures of a value are one value
-- here, the sequence of them.
use Rattle.std.specs.Prelude.{ℕ, ◌+◌, Bool, false, ◌&&◌, List, [], ◌∷◌, Option, Some, None, if◌then◌else◌}
use Rattle.std.specs.Ordering.{eq_by_cmp}
use Rattle.std.specs.List.{list_any, list_all}
use Rattle.pv_value.specs.Plain.{Plain}
use Rattle.pv_value.specs.EntryOrder.{entry_order}
use Rattle.pv_value.specs.declared.Entry.{Entry}
use Rattle.pv_words.specs.Parts.{same}
use Rattle.dp_pattern.specs.Patterns.{Pattern}
use Rattle.ds_shape.specs.Paths.{sequence_at}
use Rattle.ds_shape.specs.Outlines.{Outline, passes}
pub use Rattle.ds_shape.specs.Keys.{outline_order}
use Rattle.ds_shape.specs.Splitting.{outline_of, constants_of}
use Rattle.ds_space.specs.Wants.{observer_of}
use Rattle.ds_space.specs.Changes.{among}
pub use Rattle.ds_skeleton.specs.declared.observing.Place.{Place}
pub use Rattle.ds_skeleton.specs.declared.standing.Parts.{Parts}

abbrev pub same_outline : Outline → Outline → Bool
same_outline s t = eq_by_cmp outline_order s t

abbrev pub same_entry : Entry → Entry → Bool
same_entry e f = eq_by_cmp entry_order e f

abbrev pub same_place : Place → Place → Bool
same_place p q = same_outline p.outline q.outline && same p.constants q.constants

-- ---- observations

abbrev pub placed : Option Pattern → Option Place
placed None = None
placed (Some p) = Some (record { outline = outline_of p; constants = constants_of p })

-- the place of an observation: the outline and the constants of its pattern
unfoldable pub place_of : Plain → Option Place
place_of v = placed (observer_of v)

abbrev pub is_placed : Option Place → Place → Bool
is_placed None p = false
is_placed (Some q) p = same_place q p

-- o observes at the place
abbrev pub observes : Plain → Place → Bool
observes o p = is_placed (place_of o) p

-- one of them observes at the place
abbrev pub is_observed : List Plain → Place → Bool
is_observed seen p = list_any (λ o. observes o p) seen

abbrev pub is_outlined : Outline → Option Place → Bool
is_outlined s None = false
is_outlined s (Some p) = same_outline p.outline s

-- o is an observation of this outline
abbrev pub has_outline : Outline → Plain → Bool
has_outline s o = is_outlined s (place_of o)

-- ---- values

abbrev pub found : Option Plain → Option Plain → Option Parts
found None c = None
found (Some k) None = None
found (Some k) (Some c) = Some (record { constants = k; captures = c })

-- what stands in a value at the constant paths of the outline, where it passes the tests
abbrev pub constants_in : Outline → Plain → Option Plain
constants_in s v = if list_all (passes v) s.tests then sequence_at s.constants v else None

-- what stands in a value at the constant paths and at the capture paths of the outline, where it passes the tests
unfoldable pub stand : Outline → Plain → Option Parts
stand s v =
    if list_all (passes v) s.tests then found (sequence_at s.constants v) (sequence_at s.captures v) else None

abbrev pub is_found : Option Parts → Plain → Plain → Bool
is_found None k c = false
is_found (Some e) k c = same e.constants k && same e.captures c

-- v has this outline with these constants and these captures
abbrev pub stands : Outline → Plain → Plain → Plain → Bool
stands s k c v = is_found (stand s v) k c

abbrev pub catches_by : Option Place → Plain → Plain → Bool
catches_by None c v = false
catches_by (Some p) c v = stands p.outline p.constants c v

-- o is an observation that captures c of v
abbrev pub catches : Plain → Plain → Plain → Bool
catches o c v = catches_by (place_of o) c v

-- the key of o and c is wanted over the values
abbrev pub is_wanted : List Plain → Plain → Plain → Bool
is_wanted vs o c = among o vs && list_any (catches o c) vs

-- how many pass the test
abbrev pub count : {X : Type 0} → (X → Bool) → List X → ℕ
count p [] = 0
count p (x ∷ xs) = (if p x then 1 else 0) + count p xs
