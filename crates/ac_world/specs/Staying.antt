-- What stays of a system actor, whatever becomes of an event at it.
use Rattle.std.specs.Prelude.{List, Option}
use Rattle.gk_sturdy.specs.declared.bound.Binding.{Binding}
use Rattle.ac_world.specs.Watchers.{Task}

-- the references that are bound, where it is the gatekeeper, and its task, where it is a watcher
pub record Lasting : Type 0 where
  pub bound : List Binding
  pub task : Option Task
