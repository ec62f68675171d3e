-- Wants: the rows that a system actor owns are those of what it wants, one for each key whose reference's caveats
-- let it pass, and no others, but for the observation that a watcher makes first.
use Rattle.std.specs.Prelude.{◌≡◌, ◌≢◌, ℕ, ◌<◌, true, List, Option, Some, None, filter, is_some}
use Rattle.std.specs.Map.{keys_of, values_of}
use Rattle.pv_value.specs.Plain.{Plain}
use Rattle.ac_table.specs.declared.batches.Row.{Row}
use Rattle.ac_table.specs.Tables.{find_row, is_live}
use Rattle.ac_world.specs.Worlds.{WorldState, Resident, resident_of}
use Rattle.ac_world.specs.declared.aims.Aim.{Aim}
use Rattle.ac_world.specs.declared.watched.Watched.{Watched}
use Rattle.ac_world.specs.Watchers.{watcher_of, observation_by}
use Rattle.ac_world.specs.Behaviours.{Behaviour, behaviour_of}
use Rattle.ac_world.specs.Turns.{handle_for}

-- a row of the actor's for what the key wants, as its reference's caveats let it pass
pub record IsRowFor (y : Behaviour) (a : ℕ) (key : Plain) (r : Row) : Type 0 where
  pub aim : Aim
  pub aimed : y.aim key ≡ Some aim
  pub owner : r.owner ≡ a
  pub target : r.target ≡ aim.at.actor
  pub entity : r.entity ≡ aim.at.entity
  pub value : r.value ≡ aim.value

-- of the keys those of which the references' caveats let pass what is wanted
abbrev pub passing : Behaviour → List Plain → List Plain
passing y ks = filter (λ k. is_some (y.aim k)) ks

-- under the handle kept for the key stands a row for it
pub record IsMetBy (y : Behaviour) (a : ℕ) (rows : List Row) (key : Plain) (h : ℕ) : Type 0 where
  pub row : Row
  pub stands : find_row h rows ≡ Some row
  pub fits : IsRowFor y a key row

-- the handle is kept for a key
abbrev pub IsKept : ℕ → Resident → Type 0
IsKept h resident = (k : Plain) × (handle_for k resident.handles ≡ Some h)

-- under the handle stands watcher a's observation at the dataspace that it watches
pub record IsFirstRow (x : Watched) (a : ℕ) (rows : List Row) (h : ℕ) : Type 0 where
  pub row : Row
  pub stands : find_row h rows ≡ Some row
  pub owner : row.owner ≡ a
  pub target : row.target ≡ x.from
  pub entity : row.entity ≡ 0
  pub value : row.value ≡ observation_by a x.pattern

-- a watcher's observation stands, under a handle that it keeps for no key, and every other row of it is under a handle
-- that it keeps; so is every row of another actor
abbrev pub NoOthers : Option Watched → ℕ → Resident → List Row → Type 0
NoOthers None a resident rows =
    (h : ℕ) (r : Row) → find_row h rows ≡ Some r → r.owner ≡ a → IsKept h resident
NoOthers (Some x) a resident rows =
    (first : ℕ) × IsFirstRow x a rows first × (IsKept first resident → ⊥)
    × ((h : ℕ) (r : Row) → find_row h rows ≡ Some r → r.owner ≡ a → h ≢ first → IsKept h resident)

-- the keys for which the actor keeps handles are those that it wants and that pass; each has its row, no two have one,
-- and the actor has no other row but the observation of a watcher
pub record IsMet (y : Behaviour) (o : Option Watched) (a : ℕ) (resident : Resident) (rows : List Row) : Type 0 where
  pub keys : keys_of resident.handles ≡ passing y (y.keys (values_of resident.got))
  pub rows_stand : (k : Plain) (h : ℕ) → handle_for k resident.handles ≡ Some h → IsMetBy y a rows k h
  pub apart : (k l : Plain) (h : ℕ) → handle_for k resident.handles ≡ Some h → handle_for l resident.handles ≡ Some h
      → k ≡ l
  pub no_other : NoOthers o a resident rows

-- each live system actor, whatever is bound and whoever watches
abbrev pub AreMet : WorldState → Type 0
AreMet w =
    (a : ℕ) → a < 17 → is_live a w.table ≡ true
    → IsMet (behaviour_of w.schema w.bindings w.watches a) (watcher_of a w.watches) a (resident_of a w) w.table.rows
