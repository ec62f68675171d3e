-- What is kept of a system actor that isn't the gatekeeper.
use Rattle.std.specs.Prelude.{Option, Some, None}
use Rattle.ds_space.specs.Spaces.{Rows}
use Rattle.ac_world.specs.declared.others.Other.{Other}
use Rattle.ac_world.specs.declared.others.Other.TheVariants as others
use Rattle.ac_world.specs.Watchers.{Task}

-- the rows that were delivered to it
abbrev pub rows_in : Other Rows → Rows
rows_in (others.Space rows) = rows
rows_in (others.Watcher w) = w.got

-- its task, where it is a watcher
abbrev pub task_in : Other Rows → Option Task
task_in (others.Space rows) = None
task_in (others.Watcher w) = Some w.task
