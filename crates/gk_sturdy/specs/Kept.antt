-- How bindings are kept: a list, and a map that has the place of each oid's binding in it.
use Rattle.std.specs.Prelude.{◌≡◌, ℕ, zero, suc, List, [], ◌∷◌, Option, Some, None, option_map, if◌then◌else◌}
use Rattle.std.specs.BTreeMap.{is_at}
use Rattle.std.specs.Map.{lookup}
use Rattle.pv_value.specs.Plain.{Plain}
use Rattle.pv_value.specs.Order.{order}
use Rattle.pv_words.specs.Parts.{same}
use Rattle.gk_sturdy.specs.Bindings.{Binding, AreBoundOnce}

-- the place that the map has at an oid
abbrev pub place_at : Plain → List (Plain × ℕ) → Option ℕ
place_at oid places = lookup (is_at (order oid)) places

-- the place of an oid's binding in the list
abbrev pub place_of : Plain → List Binding → Option ℕ
place_of oid [] = None
place_of oid (b ∷ bs) = if same oid b.oid then Some zero else option_map suc (place_of oid bs)

pub record IsKept (list : List Binding) (places : List (Plain × ℕ)) : Type 0 where
  pub once : AreBoundOnce list
  pub placed : (oid : Plain) → place_at oid places ≡ place_of oid list
