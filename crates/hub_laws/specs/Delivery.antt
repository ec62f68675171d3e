-- Delivery: what a live actor has got, followed by the events of its inbox, is what stands at it.
use Rattle.std.specs.Prelude.{◌≡◌, ℕ, Bool, true, false, Some}
use Rattle.ac_table.specs.Tables.{Actor, find_actor}
use Rattle.ac_world.specs.Worlds.{WorldState, resident_of, held_by, is_system}
use Rattle.hub_laws.specs.Standing.{stands, took_all, events_of, value_alone, at_object}

abbrev pub IsDeliveredTo : ℕ → Actor → WorldState → Bool → Type 0
IsDeliveredTo a x w true =
    took_all value_alone (events_of x.inbox) (resident_of a w).got ≡ stands value_alone a w.table.rows
IsDeliveredTo a x w false = took_all at_object (events_of x.inbox) (held_by a w) ≡ stands at_object a w.table.rows

abbrev pub IsDelivered : WorldState → Type 0
IsDelivered w = (a : ℕ) (x : Actor) → find_actor a w.table.actors ≡ Some x → IsDeliveredTo a x w (is_system a)

-- what a live actor has got is what stands at it
abbrev pub IsGotBy : ℕ → WorldState → Bool → Type 0
IsGotBy a w true = (resident_of a w).got ≡ stands value_alone a w.table.rows
IsGotBy a w false = held_by a w ≡ stands at_object a w.table.rows

abbrev pub IsGot : WorldState → Type 0
IsGot w = (a : ℕ) (x : Actor) → find_actor a w.table.actors ≡ Some x → IsGotBy a w (is_system a)
