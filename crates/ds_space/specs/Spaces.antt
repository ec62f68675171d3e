-- What a space does: its meaning is its list of rows, a number and a value each, ascending by number.
use Rattle.std.specs.Prelude.{◌≡◌, ℕ, ◌<◌, ◌≤◌, List, Bool, false, is_some}
use Rattle.std.specs.Ordering.{nat_cmp}
use Rattle.std.specs.Map.{values_of, lookup, remove_entry}
use Rattle.std.specs.BTreeMap.{insert_entry, is_at}
use Rattle.pv_value.specs.Plain.{Plain}
use Rattle.ds_space.specs.Limits.{most_wanted_weight}
use Rattle.ds_space.specs.Wants.{wanted_weight}
use Rattle.ds_space.specs.Changes.{Change, AreChanges}
use Rattle.ds_space.specs.Fans.{fan_of, fan_weight}
use Rattle.ds_space.specs.declared.space.SpaceEvent.{SpaceEvent}
use Rattle.ds_space.specs.declared.space.SpaceEvent.TheVariants.{Add, Gone}
use Rattle.ds_space.specs.declared.space.Applied.{Applied}
use Rattle.ds_space.specs.declared.space.Applied.TheVariants.{Done, Over}
use Rattle.ds_space.specs.declared.space.Fan.{Fan}
use Rattle.ds_space.specs.declared.space.Fan.TheVariants as fan

abbrev pub Rows : Type 0
Rows = List (ℕ × Plain)

abbrev pub has_row : ℕ → Rows → Bool
has_row n rows = is_some (lookup (is_at (nat_cmp n)) rows)

-- the number of a row that is to come stands in no row
abbrev pub IsNew : Rows → SpaceEvent → Type 0
IsNew rows (Add n v) = has_row n rows ≡ false
IsNew rows (Gone n) = Unit {0}

-- the rows after an event: a row comes in its place by number, or goes where it is there
abbrev pub changed : Rows → SpaceEvent → Rows
changed rows (Add n v) = insert_entry nat_cmp rows n v
changed rows (Gone n) = remove_entry (is_at (nat_cmp n)) rows

-- an event after which these are the values is done: what would be wanted over them, weighed so, is no more than
-- 33,554,432
abbrev pub Fits : (List Plain → ℕ) → List Plain → SpaceEvent → Type 0
Fits weighed vs (Add n v) = weighed vs ≤ most_wanted_weight
Fits weighed vs (Gone n) = Unit {0}

-- or it isn't, and w is the weight
abbrev pub IsOver : (List Plain → ℕ) → List Plain → SpaceEvent → ℕ → Type 0
IsOver weighed vs (Add n v) w = (most_wanted_weight < w) × (w ≡ weighed vs)
IsOver weighed vs (Gone n) w = ⊥

-- what becomes of an event at whoever keeps rows, wants keys by their values, and stays what it is: the rows are those
-- after the event, and the changes those in what is wanted; or nothing has changed
abbrev pub IsAppliedWith : {S : Type 0} → (S → Rows) → (S → Type 0) → (List Plain → List Plain → List Change → Type 0)
    → (List Plain → ℕ) → Rows → SpaceEvent → Applied S → Type 0
IsAppliedWith rows_of Stays Changes weighed old e (Done s cs) =
    (rows_of s ≡ changed old e) × Stays s × Changes (values_of old) (values_of (changed old e)) cs.items
    × Fits weighed (values_of (changed old e)) e
IsAppliedWith rows_of Stays Changes weighed old e (Over s w) =
    (rows_of s ≡ old) × Stays s × IsOver weighed (values_of (changed old e)) e w

-- at a space
abbrev pub IsApplied : {S : Type 0} → (S → Rows) → Rows → SpaceEvent → Applied S → Type 0
IsApplied rows_of old e applied = IsAppliedWith rows_of (λ s. Unit {0}) AreChanges wanted_weight old e applied

-- to whom a message goes over these values, or that it would weigh more than 33,554,432
abbrev pub IsFan : List Plain → Plain → Fan → Type 0
IsFan vs m (fan.Each list) = (list.items ≡ fan_of vs m) × (fan_weight vs m ≤ most_wanted_weight)
IsFan vs m (fan.Over w) = (most_wanted_weight < w) × (w ≡ fan_weight vs m)
