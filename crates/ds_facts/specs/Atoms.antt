-- The atoms that stand in a value at root places: at a field of a record, at an item of a sequence, under a key of a
-- dictionary. An entry is a place and the atom there.
use Rattle.std.specs.Prelude.{ℕ, suc, Bool, true, false, List, [], ◌∷◌, ◌++◌, if◌then◌else◌}
use Rattle.std.specs.Ordering.{eq_by_cmp}
use Rattle.std.specs.List.{list_any}
use Rattle.pv_value.specs.Plain.{Plain, boolean, double, integer, string, byte_string, symbol, record_of, sequence}
use Rattle.pv_value.specs.Plain.{dictionary, Plains, no_more, then_more, PlainPairs, no_pairs, then_pair}
use Rattle.pv_value.specs.EntryOrder.{entry_order}
use Rattle.pv_words.specs.Words.{number}
pub use Rattle.pv_value.specs.declared.Entry.{Entry}

-- nothing is inside
abbrev pub is_atom : Plain → Bool
is_atom (boolean b) = true
is_atom (double n) = true
is_atom (integer z) = true
is_atom (string s) = true
is_atom (byte_string s) = true
is_atom (symbol s) = true
is_atom v = false

-- the entry of what stands at a place, where it is an atom
abbrev pub entry_of : Plain → Plain → List Entry
entry_of place v = if is_atom v then record { key = place; value = v } ∷ [] else []

-- each at its number, from i on
abbrev pub numbered : ℕ → Plains → List Entry
numbered i no_more = []
numbered i (then_more x xs) = entry_of (number i) x ++ numbered (suc i) xs

-- each at its key
abbrev pub keyed : PlainPairs → List Entry
keyed no_pairs = []
keyed (then_pair k v ps) = entry_of k v ++ keyed ps

abbrev pub entries_of : Plain → List Entry
entries_of (record_of l fs) = numbered 0 fs
entries_of (sequence xs) = numbered 0 xs
entries_of (dictionary ps) = keyed ps
entries_of v = []

abbrev pub same_entry : Entry → Entry → Bool
same_entry e f = eq_by_cmp entry_order e f

-- at the entry's place its atom stands in v
abbrev pub has_entry : Entry → Plain → Bool
has_entry e v = list_any (same_entry e) (entries_of v)
