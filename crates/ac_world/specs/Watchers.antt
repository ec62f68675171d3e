-- Watchers: actors 9 to 16, by their numbers in the order in which they were made. Each observes a pattern at one
-- dataspace, and asserts at another what its behaviour makes of each list of captures that it is told.
use Rattle.std.specs.Prelude.{ℕ, ◌+◌, ◌-◌, List, [], ◌∷◌, length, slice_get, nat_lt, Option, None, codes}
use Rattle.std.specs.Prelude.{option_map, if◌then◌else◌}
use Rattle.pv_value.specs.Plain.{Plain, embedded}
use Rattle.pv_words.specs.Words.{labelled}
use Rattle.ds_space.specs.References.{reference_value}
use Rattle.ds_space.specs.Spaces.{Rows}
pub use Rattle.ac_world.specs.declared.watched.Watched.{Watched}

-- the number of the watcher that is made next
abbrev pub next_watcher : List Watched → ℕ
next_watcher ws = 9 + length ws

-- the watcher that has this number, where one was made
abbrev pub watcher_of : ℕ → List Watched → Option Watched
watcher_of a ws = if nat_lt a 9 then None else slice_get ws (a - 9)

-- `<Observe p #:[a 0]>`, the observation that watcher a makes
abbrev pub observation_by : ℕ → Plain → Plain
observation_by a p =
    labelled (codes "Observe") (p ∷ embedded (reference_value (record { actor = a; entity = 0 })) ∷ [])

-- what a watcher does: the dataspace at which it asserts, and the name of its behaviour
pub record Task : Type 0 where
  pub to : ℕ
  pub name : List ℕ

abbrev pub task_of : Watched → Task
task_of w = record { to = w.to; name = w.name }

-- what the actor of this number does, where it is a watcher
abbrev pub task_at : ℕ → List Watched → Option Task
task_at a ws = option_map task_of (watcher_of a ws)

-- what is kept of a watcher: its task, and the rows that were delivered to it
pub record Post : Type 0 where
  pub task : Task
  pub got : Rows
