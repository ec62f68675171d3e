-- What an index holds of a list of distinct values, and the keys that come or go with one value.
use Rattle.std.specs.Prelude.{◌≡◌, ℕ, Bool, false, nat_lt, ◌==◌, ◌&&◌, ◌||◌, not, List, Option, Some, None}
use Rattle.std.specs.Prelude.{if◌then◌else◌}
use Rattle.std.specs.List.{list_any}
use Rattle.std.specs.Map.{values_of}
use Rattle.std.specs.BTreeMap as tree
use Rattle.std.specs.BTreeMap.{BTreeMap}
use Rattle.pv_value.specs.Plain.{Plain}
use Rattle.pv_value.specs.Order.{order}
use Rattle.pv_value.specs.declared.Entry.{Entry}
use Rattle.pv_words.specs.Parts.{same}
use Rattle.ds_shape.specs.Outlines.{Outline}
use Rattle.ds_space.specs.Changes.{among}
use Rattle.ds_facts.specs.Keeping.{AreFacts}
use Rattle.ds_space.specs.Wants.{wants, weight_of_keys}
use Rattle.ds_space.specs.Spaces.{Rows}
use Rattle.ds_skeleton.specs.Places.{Place, Parts, has_outline, observes, is_observed, place_of}
use Rattle.ds_skeleton.specs.Places.{stand, stands, is_wanted, count}
use Rattle.ds_skeleton.specs.Leaves.{Leaf, kept, leaf_at, captured_at, observed_at}
use Rattle.ds_skeleton.specs.Shapes.{Shape, observations_at, leaf_of, has_leaf, AreInOrder}
pub use Rattle.ds_skeleton.specs.declared.index.Index.{Index}

-- The shapes are those of the observations among `seen`, in order, each with the number of these. A leaf stands at each
-- place where one of `seen` observes, and nowhere else. There the count of a capture list is the number of the values of
-- `vs` that have that outline, those constants and those captures; and the observers are the observations of the place
-- among `seen`.
pub record IsIndexOf (vs seen : List Plain) (shapes : List Shape) : Type 0 where
  pub in_order : AreInOrder shapes
  pub outlines_are : (s : Outline) → observations_at shapes s ≡ kept (count (has_outline s) seen)
  pub leaves_are : (p : Place) → has_leaf shapes p ≡ is_observed seen p
  pub counts : (p : Place) (c : Plain) → captured_at (leaf_of shapes p) c
      ≡ (if has_leaf shapes p then count (stands p.outline p.constants c) vs else 0)
  pub observers : (p : Place) (o : Plain) → observed_at (leaf_of shapes p) o ≡ (among o seen && observes o p)

-- an index of distinct values
abbrev pub IsIndex : List Plain → List Shape → Type 0
IsIndex vs shapes = IsIndexOf vs vs shapes

-- an index of the values that it has itself, which its facts find
pub record IsWhole (it : Index) : Type 0 where
  pub index : IsIndex (tree.keys it.values) it.shapes.items
  pub facts : AreFacts (tree.keys it.values) it.facts

-- the counts of the values, each under its value
abbrev pub AreCounts : BTreeMap Plain ℕ → List Plain → Type 0
AreCounts counts vs = (x : Plain) → tree.get order counts x ≡ kept (count (same x) vs)

-- the index is of the values of the rows, each once, and the weight is that of what is wanted over them
pub record IsSkeleton (rows : Rows) (index : Index) (held : ℕ) : Type 0 where
  pub values : AreCounts index.values (values_of rows)
  pub whole : IsWhole index
  pub weight : held ≡ weight_of_keys (wants (values_of rows))

-- ---- keys, each as the observation and the captures

-- q is wanted over the first values and not over the second
abbrev pub only_in : List Plain → List Plain → Entry → Bool
only_in vs ws q = is_wanted vs q.key q.value && not (is_wanted ws q.key q.value)

-- the key goes with the last value that was captured so
abbrev pub touched_in : Option Leaf → Plain → Entry → Bool
touched_in leaf c q = (captured_at leaf c == 1) && (same c q.value && observed_at leaf q.key)

abbrev pub touched_by : BTreeMap Plain Leaf → Option Parts → Entry → Bool
touched_by leaves None q = false
touched_by leaves (Some e) q = touched_in (leaf_at leaves e.constants) e.captures q

-- the key goes with v at the shape
abbrev pub touched : Plain → Entry → Shape → Bool
touched v q s = touched_by s.leaves (stand s.outline v) q

-- the key is of the observation v itself
abbrev pub own_by : List Shape → Option Place → Plain → Bool
own_by shapes None c = false
own_by shapes (Some p) c = nat_lt 0 (captured_at (leaf_of shapes p) c)

abbrev pub own : List Shape → Plain → Entry → Bool
own shapes v q = same v q.key && own_by shapes (place_of v) q.value

-- the keys that go when v goes
abbrev pub goes_with : List Shape → Plain → Entry → Bool
goes_with shapes v q = list_any (touched v q) shapes || own shapes v q

-- ---- messages

abbrev pub met_in : Option Leaf → Plain → Entry → Bool
met_in leaf c q = same c q.value && observed_at leaf q.key

abbrev pub met_by : BTreeMap Plain Leaf → Option Parts → Entry → Bool
met_by leaves None q = false
met_by leaves (Some e) q = met_in (leaf_at leaves e.constants) e.captures q

-- the observer of the key captures so of the message, by this shape
abbrev pub met : Plain → Entry → Shape → Bool
met m q s = met_by s.leaves (stand s.outline m) q
