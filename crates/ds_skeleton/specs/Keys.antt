-- Keys in a list, as values, and their weight.
use Rattle.std.specs.Prelude.{ℕ, Bool, ◌+◌, List, [], ◌∷◌}
use Rattle.std.specs.List.{list_any}
use Rattle.pv_value.specs.Plain.{Plain, sequence, plains, listed}
use Rattle.pv_value.specs.Weight.{weight}
use Rattle.pv_value.specs.declared.Entry.{Entry}
use Rattle.ds_space.specs.declared.space.Fanned.{Fanned}
use Rattle.ds_skeleton.specs.Places.{same_entry}

-- the key stands in the list
abbrev pub has_key : List Entry → Entry → Bool
has_key qs q = list_any (same_entry q) qs

-- `[o c]`
abbrev pub key_value : Entry → Plain
key_value q = sequence (plains (q.key ∷ q.value ∷ []))

-- what is wanted under a key is the captures
abbrev pub weight_of_entries : List Entry → ℕ
weight_of_entries [] = 0
weight_of_entries (q ∷ qs) = weight q.value + weight_of_entries qs

-- ---- what a message fans out to

abbrev pub items_of : Plain → List Plain
items_of (sequence xs) = listed xs
items_of v = []

abbrev pub fanned_of : Entry → Fanned
fanned_of q = record { observe = q.key; captures = items_of q.value }
