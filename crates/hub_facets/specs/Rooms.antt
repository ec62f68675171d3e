-- In which facet of its actor each row stands. A system actor's rows for the keys of one group stand in one facet, which
-- is there as long as such a row stands; all other rows stand in facet 0. Syndicated actors, "facets".
use Rattle.std.specs.Prelude.{◌≡◌, ◌↔◌, ◌⊎◌, ℕ, ◌<◌, ◌≤◌, ◌==◌, ◌||◌, Bool, true, false, List, Option, Some, None, codes}
use Rattle.std.specs.List.{AllByRecursion}
use Rattle.std.specs.Map.{values_of}
use Rattle.pv_value.specs.Plain.{Plain, sequence, no_more}
use Rattle.pv_words.specs.Words.{is_word}
use Rattle.ac_table.specs.declared.batches.Row.{Row}
use Rattle.ac_table.specs.Facets.{is_facet, above, root_alone}
use Rattle.ac_table.specs.Maps.{is_key, value_at}
use Rattle.ac_table.specs.Tables.{TableState, find_row, is_live, tree_of}
use Rattle.ac_world.specs.Behaviours.{behaviour_of}
use Rattle.ac_world.specs.Allocating.{Facets, AreOwnFacets, facet_for}
use Rattle.ac_world.specs.Turns.{handle_for}
use Rattle.ac_world.specs.declared.watched.Watched.{Watched}
use Rattle.ac_world.specs.Watchers.{watcher_of}
use Rattle.ac_world.specs.Worlds.{WorldState, Resident, resident_of}
use Rattle.hub_laws.specs.Wanting.{IsKept}

-- ---- system actors

-- a group has the facet of this number
abbrev pub is_listed : ℕ → Facets → Bool
is_listed f facets = is_key f (values_of facets)

-- a row of the actor's stands in the facet
pub record IsLivedIn (a f : ℕ) (rows : List Row) : Type 0 where
  pub handle : ℕ
  pub row : Row
  pub stands : find_row handle rows ≡ Some row
  pub owner : row.owner ≡ a
  pub facet : row.facet ≡ f

-- in which of its facets the rows of actor a stand, and which facets it has
pub record HasRooms (group : Plain → Option Plain) (a : ℕ) (resident : Resident) (t : TableState) : Type 0 where
  -- the row for a key stands in the facet of the key's group, and in facet 0 where it has none
  pub rows : (k : Plain) (h : ℕ) (r : Row) → handle_for k resident.handles ≡ Some h → find_row h t.rows ≡ Some r
      → facet_for (group k) resident.facets ≡ Some r.facet
  -- any other row of the actor's stands in facet 0
  pub others : (h : ℕ) (r : Row) → find_row h t.rows ≡ Some r → r.owner ≡ a → IsKept h resident ⊎ (r.facet ≡ 0)
  -- facet 0 and those of its groups are all that it has, each right below facet 0
  pub facets : (f : ℕ) → is_facet f (tree_of a t) ≡ (f == 0 || is_listed f resident.facets)
  pub flat : (f : ℕ) → above f (tree_of a t) ≡ 0
  -- no two groups have one facet, and none has facet 0
  pub own_facets : AreOwnFacets resident.facets (tree_of a t)
  -- in each of them stands a row of the actor's
  pub lived_in : (f : ℕ) → is_listed f resident.facets ≡ true → IsLivedIn a f t.rows

-- each live system actor
abbrev pub AreRoomed : WorldState → Type 0
AreRoomed w =
    (a : ℕ) → a < 17 → is_live a w.table ≡ true
    → HasRooms (behaviour_of w.schema w.bindings w.watches a).group a (resident_of a w) w.table

-- ---- when a group has a facet

-- a handle is kept for a key of the group
pub record HasKey (group : Plain → Option Plain) (g : Plain) (resident : Resident) : Type 0 where
  pub key : Plain
  pub handle : ℕ
  pub kept : handle_for key resident.handles ≡ Some handle
  pub of_group : group key ≡ Some g

abbrev pub HasFacet : Plain → Resident → Type 0
HasFacet g resident = (f : ℕ) × (facet_for (Some g) resident.facets ≡ Some f)

-- exactly where a key of it is kept, so that a row for it stands
abbrev pub ComeWithRows : WorldState → Type 0
ComeWithRows w =
    (a : ℕ) → a < 17 → is_live a w.table ≡ true → (g : Plain)
    → HasFacet g (resident_of a w) ↔ HasKey (behaviour_of w.schema w.bindings w.watches a).group g (resident_of a w)

-- a live watcher of the behaviour `each` has no facet for a list of no captures, of which it makes nothing
abbrev pub NoneForNothing : WorldState → Type 0
NoneForNothing w =
    (a : ℕ) (x : Watched) → a < 17 → is_live a w.table ≡ true → watcher_of a w.watches ≡ Some x
    → is_word x.name (codes "each") ≡ true
    → facet_for (Some (sequence no_more)) (resident_of a w).facets ≡ None

-- ---- connections, and who isn't live

-- a live connection has facet 0 alone, and its rows stand there
pub record AreInRoots (w : WorldState) : Type 0 where
  pub trees : (a : ℕ) → 17 ≤ a → is_live a w.table ≡ true → tree_of a w.table ≡ root_alone
  pub rows : AllByRecursion (λ r. 17 ≤ r.owner → r.facet ≡ 0) w.table.rows

-- no facets are kept of who isn't live
abbrev pub EndWithActors : WorldState → Type 0
EndWithActors w = (a : ℕ) → is_live a w.table ≡ false → value_at a w.table.trees ≡ None
