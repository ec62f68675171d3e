-- Where values with given constants are to be looked for.
use Rattle.std.specs.Prelude.{◌≡◌, ℕ, ◌-◌, ◌^◌, min, true, List, [], ◌∷◌, Option, Some, None, if◌then◌else◌}
use Rattle.std.specs.BTreeMap as tree
use Rattle.std.specs.BTreeSet as sorted
use Rattle.std.specs.BTreeSet.{btree_set_len}
use Rattle.pv_value.specs.Plain.{Plain, sequence, listed}
use Rattle.pv_value.specs.Order.{order}
use Rattle.pv_value.specs.EntryOrder.{entry_order}
use Rattle.ds_shape.specs.declared.paths.Step.{Step}
use Rattle.ds_shape.specs.declared.paths.Step.TheVariants.{Field, Item, Under}
use Rattle.ds_shape.specs.Paths.{sequence_at}
use Rattle.ds_shape.specs.Outlines.{Outline}
use Rattle.ds_space.specs.Changes.{among}
use Rattle.ds_facts.specs.Atoms.{Entry, is_atom}
use Rattle.ds_facts.specs.Keeping.{Facts, list_size}
pub use Rattle.ds_facts.specs.declared.near.Near.{Near}
pub use Rattle.ds_facts.specs.declared.near.Near.TheVariants.{Anywhere, Nowhere, Among}

-- those of the values that meet the wish are to be looked for there
abbrev pub IsNearTo : List Plain → (Plain → Type 0) → Near → Type 0
IsNearTo vs Meets Anywhere = Unit {0}
IsNearTo vs Meets Nowhere = (v : Plain) → among v vs ≡ true → Meets v → ⊥
IsNearTo vs Meets (Among list) =
    ((v : Plain) → sorted.contains order list.now v ≡ true → among v vs ≡ true)
    × ((v : Plain) → among v vs ≡ true → Meets v → sorted.contains order list.now v ≡ true)

-- those that have the constants k at the outline
abbrev pub IsNear : List Plain → Outline → Plain → Near → Type 0
IsNear vs o k near = IsNearTo vs (λ v. sequence_at o.constants v ≡ Some k) near

-- ---- the list of one constant

-- the place to which a step leads
abbrev pub place_of : Step → Plain
place_of (Field place) = place
place_of (Item place) = place
place_of (Under key) = key

-- the entry of a constant, where it is an atom and stands at a root place
abbrev pub constant_entry : List Step → Plain → Option Entry
constant_entry (s ∷ []) k = if is_atom k then Some (record { key = place_of s; value = k }) else None
constant_entry path k = None

-- ---- how far it tells

-- how many values are there; more than any list has, where no list tells
abbrev pub size : Near → ℕ
size Anywhere = 2 ^ 64 - 1
size Nowhere = 0
size (Among list) = btree_set_len list.now

-- how many values are kept at the entry; more than any list has, where there is none
abbrev pub told : Facts → Option Entry → ℕ
told it None = 2 ^ 64 - 1
told it (Some e) = list_size (tree.get entry_order it.places e)

-- the fewest that one of these constants tells, each at its path
abbrev pub fewest : Facts → List (List Step) → List Plain → ℕ
fewest it [] ks = 2 ^ 64 - 1
fewest it (path ∷ paths) [] = 2 ^ 64 - 1
fewest it (path ∷ paths) (k ∷ ks) = min (told it (constant_entry path k)) (fewest it paths ks)

-- the same of the constants k at the outline
abbrev pub fewest_at : Facts → Outline → Plain → ℕ
fewest_at it o (sequence ks) = fewest it o.constants (listed ks)
fewest_at it o k = 2 ^ 64 - 1
