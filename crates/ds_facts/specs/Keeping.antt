-- What is kept of a list of values.
use Rattle.std.specs.Prelude.{◌≡◌, ◌<◌, ℕ, Bool, false, ◌&&◌, List, Option, Some, None}
use Rattle.std.specs.BTreeMap as tree
use Rattle.std.specs.BTreeMap.{BTreeMap}
use Rattle.std.specs.BTreeSet as sorted
use Rattle.std.specs.BTreeSet.{BTreeSet, btree_set_len}
use Rattle.pv_value.specs.Plain.{Plain}
use Rattle.pv_value.specs.Order.{order}
use Rattle.pv_value.specs.EntryOrder.{entry_order}
use Rattle.ds_space.specs.Changes.{among}
use Rattle.ds_facts.specs.Atoms.{Entry, has_entry}
pub use Rattle.ds_facts.specs.declared.facts.Facts.{Facts}

abbrev pub Places : Type 0
Places = BTreeMap Entry (BTreeSet Plain)

abbrev pub is_in : Option (BTreeSet Plain) → Plain → Bool
is_in None v = false
is_in (Some list) v = sorted.contains order list v

-- v is kept at the entry
abbrev pub keeps : Places → Entry → Plain → Bool
keeps places e v = is_in (tree.get entry_order places e) v

-- how many values a list has
abbrev pub list_size : Option (BTreeSet Plain) → ℕ
list_size None = 0
list_size (Some list) = btree_set_len list

-- no list is empty
abbrev pub AreFilled : Places → Type 0
AreFilled places =
    (e : Entry) (list : BTreeSet Plain) → tree.get entry_order places e ≡ Some list → 0 < btree_set_len list

-- at each entry stand those of the values that have it, and an entry that none has isn't kept
pub record AreFacts (vs : List Plain) (it : Facts) : Type 0 where
  pub members : (e : Entry) (v : Plain) → keeps it.places e v ≡ (among v vs && has_entry e v)
  pub filled : AreFilled it.places
