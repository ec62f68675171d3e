-- Endings: no row has an owner that isn't live, and nothing is kept of an ended connection, nor what an ended watcher has
-- got.
use Rattle.std.specs.Prelude.{◌≡◌, ℕ, false, None, IsTrue}
use Rattle.std.specs.List.{AllByRecursion}
use Rattle.ac_table.specs.Tables.{is_live}
use Rattle.ac_world.specs.Worlds.{actor_of, entry_of}
use Rattle.hub_machine.specs.State.{State}

pub record HaveEnded (s : State) : Type 0 where
  pub owners : AllByRecursion (λ r. IsTrue (is_live r.owner s.world.table)) s.world.table.rows
  pub names : (k : ℕ) → is_live (actor_of k) s.world.table ≡ false → entry_of k s.connections ≡ None
  pub got : (k : ℕ) → is_live (actor_of k) s.world.table ≡ false → entry_of (actor_of k) s.world.held ≡ None
  pub watchers : (a : ℕ) → is_live a s.world.table ≡ false → entry_of a s.world.residents ≡ None
