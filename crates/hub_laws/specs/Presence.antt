-- Presence: who is always live, and of whom names, rows and faults are kept.
use Rattle.std.specs.Prelude.{◌≡◌, ℕ, ◌<◌, ◌≤◌, true, false}
use Rattle.std.specs.List.{AllByRecursion}
use Rattle.ac_table.specs.Tables.{is_live}
use Rattle.ac_world.specs.Watchers.{next_watcher}
use Rattle.ac_world.specs.Worlds.{actor_of}
use Rattle.hub_machine.specs.State.{State, is_there}
use Rattle.hub_valid.specs.Validity.{HasCome}

-- connection k has come, and isn't live any more
abbrev pub HasEnded : ℕ → State → Type 0
HasEnded k s = HasCome s.world.opened k × (is_live (actor_of k) s.world.table ≡ false)

pub record ArePresent (s : State) : Type 0 where
  -- the gatekeeper and the dataspaces are live, and a watcher that is live was made
  pub always : (a : ℕ) → a < 9 → is_live a s.world.table ≡ true
  pub watchers : (a : ℕ) → a < 17 → is_live a s.world.table ≡ true → a < next_watcher s.world.watches
  -- a live connection has come, and has names
  pub names : (k : ℕ) → 1 ≤ k → is_live (actor_of k) s.world.table ≡ true
      → HasCome s.world.opened k × (is_there k s ≡ true)
  -- faults are kept of ended connections alone
  pub faults : AllByRecursion (λ e. HasEnded e.0 s) s.faults
