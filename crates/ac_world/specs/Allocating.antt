-- In which of its facets a system actor's rows stand. The rows for keys of one group, as for what one observation
-- captures, stand in one facet right below facet 0, which is made with the first of them and goes with the last.
-- Syndicated actors, "facets".
use Rattle.std.specs.Prelude.{◌≡◌, ◌≢◌, ℕ, ◌<◌, true, List, [], ◌∷◌, Option, Some, None, if◌then◌else◌}
use Rattle.std.specs.List.{AllByRecursion}
use Rattle.std.specs.Map.{lookup, remove_entry, values_of}
use Rattle.std.specs.BTreeMap.{insert_entry, is_at}
use Rattle.pv_value.specs.Plain.{Plain}
use Rattle.pv_value.specs.Order.{order}
use Rattle.ac_table.specs.Facets.{Tree, is_facet, above, least_free}
use Rattle.ac_table.specs.Tables.{TableState, has_rows, tree_of, faceted, without_facets}

-- the facet of each group that has one
abbrev pub Facets : Type 0
Facets = List (Plain × ℕ)

-- rows for keys of no group stand in facet 0
abbrev pub facet_for : Option Plain → Facets → Option ℕ
facet_for None fs = Some 0
facet_for (Some g) fs = lookup (is_at (order g)) fs

-- ---- a row comes

-- the facet in which it is to stand, the facets of groups, and the trees of all actors
pub record Allocated : Type 0 where
  pub facet : ℕ
  pub facets : Facets
  pub trees : List (ℕ × Tree)

-- a group has a facet from now on
abbrev pub first_allocated : ℕ → Plain → ℕ → Facets → TableState → Allocated
first_allocated a g n fs t = record {
  facet = n;
  facets = insert_entry order fs g n;
  trees = (faceted a 0 n t).trees;
}

abbrev pub allocated_at : ℕ → Option Plain → Option ℕ → Facets → TableState → Allocated
allocated_at a g (Some f) fs t = record { facet = f; facets = fs; trees = t.trees }
allocated_at a (Some g) None fs t = first_allocated a g (least_free (tree_of a t)) fs t
allocated_at a None None fs t = record { facet = 0; facets = fs; trees = t.trees }

-- it stands in the facet of its group, or else in a new one, of the least number that is free
abbrev pub allocated : ℕ → Option Plain → Facets → TableState → Allocated
allocated a g fs t = allocated_at a g (facet_for g fs) fs t

-- ---- a row has gone

pub record Released : Type 0 where
  pub facets : Facets
  pub trees : List (ℕ × Tree)

abbrev pub released_at : ℕ → Plain → Option ℕ → Facets → TableState → Released
released_at a g None fs t = record { facets = fs; trees = t.trees }
released_at a g (Some f) fs t =
    if has_rows a f t then record { facets = fs; trees = t.trees }
    else record { facets = remove_entry (is_at (order g)) fs; trees = (without_facets a (f ∷ []) t).trees }

-- the facet of its group goes, where no row stands in it any more
abbrev pub released : ℕ → Option Plain → Facets → TableState → Released
released a None fs t = record { facets = fs; trees = t.trees }
released a (Some g) fs t = released_at a g (facet_for (Some g) fs) fs t

-- ---- what is true of every world

-- facet 0 is there, and the other facets stand right below it
pub record IsRooted (t : Tree) : Type 0 where
  pub root : is_facet 0 t ≡ true
  pub flat : (f : ℕ) → above f t ≡ 0

-- no number stands twice
abbrev pub AreApart : List ℕ → Type 0
AreApart [] = Unit {0}
AreApart (f ∷ fs) = AllByRecursion (λ g. g ≢ f) fs × AreApart fs

-- a group's facet is there, and isn't facet 0
abbrev pub IsOwnFacet : Tree → ℕ → Type 0
IsOwnFacet t f = (0 < f) × (is_facet f t ≡ true)

-- each group has a facet of its own
pub record AreOwnFacets (fs : Facets) (t : Tree) : Type 0 where
  pub there : AllByRecursion (IsOwnFacet t) (values_of fs)
  pub apart : AreApart (values_of fs)
