-- Maps and sets of numbers, seen as the lists of their entries and keys, in order.
use Rattle.std.specs.Prelude.{◌≡◌, ℕ, Bool, List, Option, cond}
use Rattle.std.specs.List.{list_any}
use Rattle.std.specs.List.Sorted.{IsStrictlySortedBy}
use Rattle.std.specs.BTreeMap.{is_at}
use Rattle.std.specs.Map.{lookup, keys_of}
use Rattle.std.specs.Ordering.{nat_cmp}

abbrev pub value_at : {X : Type 0} → ℕ → List (ℕ × X) → Option X
value_at a es = lookup (is_at (nat_cmp a)) es

abbrev pub is_key : ℕ → List ℕ → Bool
is_key a ks = list_any (is_at (nat_cmp a)) ks

abbrev pub KeysAscend : {X : Type 0} → List (ℕ × X) → Type 0
KeysAscend es = IsStrictlySortedBy nat_cmp (keys_of es)

-- at one key the map has w afterwards, and at each other what it had
abbrev pub ChangesAt : {X : Type 0} → ℕ → Option X → List (ℕ × X) → List (ℕ × X) → Type 0
ChangesAt a w old new = (q : ℕ) → value_at q new ≡ cond (is_at (nat_cmp a) q) w (value_at q old)

abbrev pub SetChangesAt : ℕ → Bool → List ℕ → List ℕ → Type 0
SetChangesAt a w old new = (q : ℕ) → is_key q new ≡ cond (is_at (nat_cmp a) q) w (is_key q old)
