-- How keys by groups are kept: under each group its facet and the handles of its keys by the rest of each, and aside
-- the handles of keys that are no `[o c]`. Groups go by their marks.
use Rattle.std.specs.Prelude.{◌≡◌, ℕ, List, [], ◌∷◌, Bool, true, false, Option, Some, None}
use Rattle.std.specs.BTreeMap as tree
use Rattle.std.specs.BTreeMap.{BTreeMap, insert_entry, IsOrdered}
use Rattle.pv_value.specs.Plain.{Plain}
use Rattle.pv_value.specs.Order.{order}
use Rattle.pv_marks.specs.MarkedOrder.{marked_order}
use Rattle.ac_groups.specs.Groups.{pair}
pub use Rattle.ac_groups.specs.declared.group.Group.{Group}

abbrev pub group_at : BTreeMap Plain Group → Plain → Option Group
group_at groups o = tree.get marked_order groups o

-- the handle of the key whose rest is c
abbrev pub handle_in : Option Group → Plain → Option ℕ
handle_in None c = None
handle_in (Some g) c = tree.get order g.handles c

abbrev pub facet_in : Option Group → Option ℕ
facet_in None = None
facet_in (Some g) = g.facet

-- ---- the flat lists

-- the handles of a group o, by whole keys, among others
abbrev pub with_handles : Plain → List (Plain × ℕ) → List (Plain × ℕ) → List (Plain × ℕ)
with_handles o [] es = es
with_handles o (h ∷ hs) es = insert_entry order (with_handles o hs es) (pair o h.0) h.1

abbrev pub all_handles : List (Plain × Group) → List (Plain × ℕ) → List (Plain × ℕ)
all_handles [] others = others
all_handles (g ∷ gs) others = with_handles g.0 g.1.handles.entries (all_handles gs others)

abbrev pub with_facet : Plain → Option ℕ → List (Plain × ℕ) → List (Plain × ℕ)
with_facet o None fs = fs
with_facet o (Some f) fs = insert_entry order fs o f

abbrev pub all_facets : List (Plain × Group) → List (Plain × ℕ)
all_facets [] = []
all_facets (g ∷ gs) = with_facet g.0 g.1.facet (all_facets gs)

-- ---- what is true of every store

-- neither a facet nor a handle is left
abbrev pub is_bare_of : Option ℕ → List (Plain × ℕ) → Bool
is_bare_of None [] = true
is_bare_of None (h ∷ hs) = false
is_bare_of (Some f) hs = false

abbrev pub is_bare : Group → Bool
is_bare g = is_bare_of g.facet g.handles.entries

-- no group stands of which nothing is left
abbrev pub NoneBare : BTreeMap Plain Group → Type 0
NoneBare groups = (o : Plain) (g : Group) → group_at groups o ≡ Some g → is_bare g ≡ false

pub record IsKept (groups : BTreeMap Plain Group) (others : BTreeMap Plain ℕ) : Type 0 where
  pub groups_ascend : IsOrdered marked_order groups
  pub others_ascend : IsOrdered order others
  pub none_bare : NoneBare groups
  -- no key `[o c]` is kept aside
  pub apart : (o c : Plain) → tree.get order others (pair o c) ≡ None
