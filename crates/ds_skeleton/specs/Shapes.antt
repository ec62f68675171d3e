-- What the index has of outlines, and what a change of one value or of one observation does to it.
use Rattle.std.specs.Prelude.{◌≡◌, ℕ, ◌+◌, ◌-◌, Bool, true, false, ◌&&◌, ◌||◌, not, List, [], ◌∷◌, map}
use Rattle.std.specs.Prelude.{Option, Some, None, option_map, option_and_then, is_some, if◌then◌else◌}
use Rattle.std.specs.List.Sorted.{IsStrictlySortedBy}
use Rattle.std.specs.BTreeMap.{BTreeMap}
use Rattle.pv_value.specs.Plain.{Plain}
use Rattle.pv_words.specs.Parts.{same}
use Rattle.ds_shape.specs.Outlines.{Outline}
use Rattle.ds_skeleton.specs.Places.{Place, Parts, outline_order, same_outline, stands, count}
use Rattle.ds_skeleton.specs.Leaves.{Leaf, leaf_at, has_leaf_at, captured_at, observed_at, others_observe}
pub use Rattle.ds_skeleton.specs.declared.shape.Shape.{Shape}

-- the shape of an outline
abbrev pub shape_at : List Shape → Outline → Option Shape
shape_at [] o = None
shape_at (s ∷ ss) o = if same_outline o s.outline then Some s else shape_at ss o

-- how many observations have the outline, where it is kept
abbrev pub observations_at : List Shape → Outline → Option ℕ
observations_at shapes o = option_map (λ s. s.observations) (shape_at shapes o)

abbrev pub is_kept : List Shape → Outline → Bool
is_kept shapes o = is_some (shape_at shapes o)

-- the leaf of a place
abbrev pub leaf_of : List Shape → Place → Option Leaf
leaf_of shapes p = option_and_then (λ s. leaf_at s.leaves p.constants) (shape_at shapes p.outline)

abbrev pub has_leaf : List Shape → Place → Bool
has_leaf shapes p = is_some (leaf_of shapes p)

-- what was found of a value, where a leaf stands for its constants
abbrev pub at_leaf : BTreeMap Plain Leaf → Option Parts → Option Parts
at_leaf leaves None = None
at_leaf leaves (Some e) = if has_leaf_at leaves e.constants then Some e else None

-- the outlines ascend
abbrev pub AreInOrder : List Shape → Type 0
AreInOrder shapes = IsStrictlySortedBy outline_order (map (λ s. s.outline) shapes)

-- ---- what a change does to one

-- s is the outline o, without observations and without leaves
pub record IsBlank (o : Outline) (s : Shape) : Type 0 where
  pub outline : s.outline ≡ o
  pub observations : s.observations ≡ 0
  pub leaves : (k : Plain) → leaf_at s.leaves k ≡ None

-- t is s with one value more, which is counted where a leaf stands
pub record IsBumped (v : Plain) (s t : Shape) : Type 0 where
  pub outline : t.outline ≡ s.outline
  pub observations : t.observations ≡ s.observations
  pub leaves : (k : Plain) → has_leaf_at t.leaves k ≡ has_leaf_at s.leaves k
  pub counts : (k c : Plain) → captured_at (leaf_at t.leaves k) c
      ≡ captured_at (leaf_at s.leaves k) c + (if has_leaf_at s.leaves k && stands s.outline k c v then 1 else 0)
  pub observers : (k o : Plain) → observed_at (leaf_at t.leaves k) o ≡ observed_at (leaf_at s.leaves k) o

-- t is s with one value fewer, which was counted where a leaf stands
pub record IsDropped (v : Plain) (s t : Shape) : Type 0 where
  pub outline : t.outline ≡ s.outline
  pub observations : t.observations ≡ s.observations
  pub leaves : (k : Plain) → has_leaf_at t.leaves k ≡ has_leaf_at s.leaves k
  pub counts : (k c : Plain) → captured_at (leaf_at t.leaves k) c
      ≡ captured_at (leaf_at s.leaves k) c - (if has_leaf_at s.leaves k && stands s.outline k c v then 1 else 0)
  pub observers : (k o : Plain) → observed_at (leaf_at t.leaves k) o ≡ observed_at (leaf_at s.leaves k) o

-- t is s with one observation more, of these constants, where a new leaf has the values counted
pub record IsWatched (vs : List Plain) (constants observer : Plain) (s t : Shape) : Type 0 where
  pub outline : t.outline ≡ s.outline
  pub observations : t.observations ≡ s.observations + 1
  pub leaves : (k : Plain) → has_leaf_at t.leaves k ≡ (same constants k || has_leaf_at s.leaves k)
  pub counts : (k c : Plain) → captured_at (leaf_at t.leaves k) c
      ≡ (if same constants k && not (has_leaf_at s.leaves k) then count (stands s.outline k c) vs
      else captured_at (leaf_at s.leaves k) c)
  pub observers : (k o : Plain) → observed_at (leaf_at t.leaves k) o
      ≡ (if same constants k && same observer o then true else observed_at (leaf_at s.leaves k) o)

-- t is s with one observation fewer, of these constants, where the leaf stays for others alone
pub record IsUnwatched (constants observer : Plain) (s t : Shape) : Type 0 where
  pub outline : t.outline ≡ s.outline
  pub observations : t.observations ≡ s.observations - 1
  pub leaves : (k : Plain) → has_leaf_at t.leaves k
      ≡ (if same constants k then others_observe observer (leaf_at s.leaves k) else has_leaf_at s.leaves k)
  pub counts : (k c : Plain) → captured_at (leaf_at t.leaves k) c
      ≡ (if has_leaf_at t.leaves k then captured_at (leaf_at s.leaves k) c else 0)
  pub observers : (k o : Plain) → observed_at (leaf_at t.leaves k) o
      ≡ (if same constants k && same observer o then false else observed_at (leaf_at s.leaves k) o)
