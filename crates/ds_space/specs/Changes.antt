-- How what is wanted changes: the keys that leave and those that come.
use Rattle.std.specs.Prelude.{◌≡◌, Bool, false, ◌&&◌, not, List, [], ◌∷◌, ◌++◌, map, if◌then◌else◌}
use Rattle.std.specs.declared.cmp.Ordering.{Ordering}
use Rattle.std.specs.declared.cmp.Ordering.TheVariants.{Less, Equal, Greater}
use Rattle.std.specs.List.{list_any, filter}
use Rattle.pv_value.specs.Plain.{Plain}
use Rattle.pv_value.specs.Order.{order}
use Rattle.pv_value.specs.WellFormed.{Ascend}
use Rattle.pv_words.specs.Parts.{same}
use Rattle.ds_space.specs.Wants.{wanted}
pub use Rattle.ds_space.specs.declared.space.Change.{Change}
pub use Rattle.ds_space.specs.declared.space.Change.TheVariants.{Left, Came}

abbrev pub among : Plain → List Plain → Bool
among k ks = list_any (same k) ks

-- those of the first list that aren't in the second
abbrev pub without : List Plain → List Plain → List Plain
without ks ls = filter (λ k. not (among k ls)) ks

-- of ascending keys those that go, and then those that are new
abbrev pub changes : List Plain → List Plain → List Change
changes before after = map Left (without before after) ++ map Came (without after before)

-- k is wanted over the first values and not over the second
abbrev pub only_over : List Plain → List Plain → Plain → Bool
only_over vs ws k = wanted vs k && not (wanted ws k)

-- first the keys that are wanted over the old values alone, then those over the new ones alone, each side ascending
pub record AreChanges (old new : List Plain) (cs : List Change) : Type 0 where
  pub left : List Plain
  pub came : List Plain
  pub are : cs ≡ map Left left ++ map Came came
  pub left_ascends : Ascend left
  pub came_ascends : Ascend came
  pub left_are : (k : Plain) → among k left ≡ only_over old new k
  pub came_are : (k : Plain) → among k came ≡ only_over new old k

-- ---- the walk over two ascending lists

abbrev pub skip_by : Ordering → Plain → List Plain → List Plain → List Plain
skip_by Less x xs later = later
skip_by Equal x xs later = x ∷ xs
skip_by Greater x xs later = x ∷ xs

-- the rest from the first key on that doesn't come before k
abbrev pub skipped : Plain → List Plain → List Plain
skipped k [] = []
skipped k (x ∷ xs) = skip_by (order x k) x xs (skipped k xs)

abbrev pub begins_with : Plain → List Plain → Bool
begins_with k [] = false
begins_with k (x ∷ xs) = same x k

-- those of the first list that the second lacks
abbrev pub lacking : List Plain → List Plain → List Plain
lacking [] those = []
lacking (k ∷ ks) those =
    if begins_with k (skipped k those) then lacking ks (skipped k those) else k ∷ lacking ks (skipped k those)
