-- What the index has of one outline and constants.
use Rattle.std.specs.Prelude.{ℕ, zero, suc, Bool, false, not, is_some, Option, Some, None}
use Rattle.std.specs.List.{list_any}
use Rattle.std.specs.BTreeMap as tree
use Rattle.std.specs.BTreeMap.{BTreeMap}
use Rattle.std.specs.BTreeSet as sorted
use Rattle.pv_value.specs.Plain.{Plain}
use Rattle.pv_value.specs.Order.{order}
use Rattle.pv_words.specs.Parts.{same}
pub use Rattle.ds_skeleton.specs.declared.leaf.Leaf.{Leaf}

-- a count that isn't kept is 0
abbrev pub number : Option ℕ → ℕ
number None = 0
number (Some n) = n

-- a count as it is kept: 0 isn't
abbrev pub kept : ℕ → Option ℕ
kept zero = None
kept (suc n) = Some (suc n)

-- the leaf of these constants, among those of one outline
abbrev pub leaf_at : BTreeMap Plain Leaf → Plain → Option Leaf
leaf_at leaves k = tree.get order leaves k

abbrev pub has_leaf_at : BTreeMap Plain Leaf → Plain → Bool
has_leaf_at leaves k = is_some (leaf_at leaves k)

-- how many values were captured so
abbrev pub captured_at : Option Leaf → Plain → ℕ
captured_at None c = 0
captured_at (Some leaf) c = number (tree.get order leaf.captured c)

-- whether o observes
abbrev pub observed_at : Option Leaf → Plain → Bool
observed_at None o = false
observed_at (Some leaf) o = sorted.contains order leaf.observers o

-- whether somebody but o observes
abbrev pub others_observe : Plain → Option Leaf → Bool
others_observe o None = false
others_observe o (Some leaf) = list_any (λ other. not (same o other)) (sorted.keys leaf.observers)
