-- How an actor's facets are kept: each with the one above it, those right below it, and the handles of its rows; and
-- the numbers below a top that no facet has.
use Rattle.std.specs.Prelude.{◌≡◌, ℕ, ◌<◌, ◌≤◌, ◌^◌, Bool, true, not, nat_lt, ◌&&◌, ◌==◌, List, [], map, cond}
use Rattle.std.specs.Prelude.{Option, Some, None, is_some, length}
use Rattle.ac_table.specs.Facets.{Tree, is_facet, above, IsTree}
use Rattle.ac_table.specs.Maps.{value_at, is_key, KeysAscend}
use Rattle.ac_table.specs.declared.facets.Facet.{Facet}

-- a facet, as it is seen: the one above it, and the handles of its rows
pub record FacetState : Type 0 where
  pub parent : ℕ
  pub rows : List ℕ

abbrev pub bare : ℕ → FacetState
bare parent = record { parent = parent; rows = [] }

abbrev pub facet_seen : ℕ × Facet → ℕ × FacetState
facet_seen e = (e.0, record { parent = e.1.parent; rows = e.1.rows.keys })

abbrev pub parent_of : ℕ × FacetState → ℕ × ℕ
parent_of e = (e.0, e.1.parent)

abbrev pub tree_in : List (ℕ × FacetState) → Tree
tree_in fs = map parent_of fs

abbrev pub rows_of_facet : Option FacetState → List ℕ
rows_of_facet None = []
rows_of_facet (Some x) = x.rows

-- whether a facet has a row
abbrev pub has_at : ℕ → ℕ → List (ℕ × FacetState) → Bool
has_at f h fs = is_key h (rows_of_facet (value_at f fs))

-- whether it has any
abbrev pub has_some : ℕ → List (ℕ × FacetState) → Bool
has_some f fs = nat_lt 0 (length (rows_of_facet (value_at f fs)))

-- the facets and who is above whom stay
abbrev pub SameTree : List (ℕ × FacetState) → List (ℕ × FacetState) → Type 0
SameTree old new = tree_in new ≡ tree_in old

-- and so do the rows in each
abbrev pub SameRows : List (ℕ × FacetState) → List (ℕ × FacetState) → Type 0
SameRows old new = (f h : ℕ) → has_at f h new ≡ has_at f h old

-- one facet has a row more, or less
abbrev pub is_here : ℕ → ℕ → ℕ → ℕ → Bool
is_here f h g k = g == f && k == h

abbrev pub HasRow : ℕ → ℕ → Bool → List (ℕ × FacetState) → List (ℕ × FacetState) → Type 0
HasRow f h w old new = (g k : ℕ) → has_at g k new ≡ cond (is_here f h g k) w (has_at g k old)

-- ---- what is kept

-- each facet but the root is among those below its parent
abbrev pub IsLinked : List (ℕ × Facet) → Type 0
IsLinked all = (g : ℕ) (x p : Facet) → 0 < g → value_at g all ≡ Some x → value_at x.parent all ≡ Some p
    → is_key g p.below.keys ≡ true

-- these are the numbers below the top that no facet has
abbrev pub IsFreed : List (ℕ × Facet) → List ℕ → ℕ → Type 0
IsFreed all free end = (n : ℕ) → is_key n free ≡ (nat_lt n end && not (is_some (value_at n all)))

pub record IsPlaced (all : List (ℕ × Facet)) (free : List ℕ) (end : ℕ) : Type 0 where
  pub ascends : KeysAscend all
  pub tree : IsTree (tree_in (map facet_seen all))
  pub linked : IsLinked all
  pub freed : IsFreed all free end
  pub within : (n : ℕ) → is_some (value_at n all) ≡ true → n < end
  pub fits : end ≤ 2 ^ 32

-- ---- what a change of one facet keeps

-- what is seen of the facets stays
abbrev pub SameFacets : List (ℕ × Facet) → List (ℕ × Facet) → Type 0
SameFacets old new = map facet_seen new ≡ map facet_seen old

-- y was a facet under the same number, with the same one above it, and of those right below it these are there still
pub record WasAt (spared : ℕ → Bool) (old : List (ℕ × Facet)) (g : ℕ) (y : Facet) : Type 0 where
  pub was : Facet
  pub found : value_at g old ≡ Some was
  pub parent : y.parent ≡ was.parent
  pub below : (k : ℕ) → spared k ≡ true → is_key k was.below.keys ≡ true → is_key k y.below.keys ≡ true

abbrev pub KeepsLinks : (ℕ → Bool) → List (ℕ × Facet) → List (ℕ × Facet) → Type 0
KeepsLinks spared old new = (g : ℕ) (y : Facet) → value_at g new ≡ Some y → WasAt spared old g y

-- a number is among those right below a facet
abbrev pub LinksAt : ℕ → ℕ → List (ℕ × Facet) → Type 0
LinksAt f n all = (y : Facet) → value_at f all ≡ Some y → is_key n y.below.keys ≡ true

-- whether a facet stands right below another; the root stands below none
abbrev pub is_child : ℕ → ℕ → Tree → Bool
is_child g f t = nat_lt 0 g && (is_facet g t && above g t == f)
