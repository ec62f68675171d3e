-- An event at a dataspace or at a watcher, as at one of both.
use Rattle.std.proofs.Common.{List}
use Rattle.ps_schema.specs.declared.Definition.{Definition}
use Rattle.ds_space.specs.Spaces.{Rows}
use Rattle.ds_space.specs.declared.space.SpaceEvent.{SpaceEvent}
use Rattle.ac_world.specs.declared.others.Other.TheVariants as others
use Rattle.ac_world.specs.declared.systems.Outcome.{Outcome}
use Rattle.ac_world.specs.declared.systems.Outcome.TheVariants.{Done, Over}
use Rattle.ac_world.specs.Behaviours.{dataspace, watcher, other}
use Rattle.ac_world.specs.Others.{rows_in, task_in}
use Rattle.ac_world.specs.Outcomes.{outcome_at}
use Rattle.ac_world.specs.Systems.{IsAppliedBy}
use Rattle.ac_world.specs.Watchers.{Post}

pub space_applied : (ds : List Definition) (old : Rows) (e : SpaceEvent) (s : Rows) (o : Outcome)
    → IsAppliedBy {S = Rows} (λ x. x) (λ x. dataspace ds) (dataspace ds) old e (outcome_at s o)
    → IsAppliedBy rows_in (λ x. other ds (task_in x)) (dataspace ds) old e (outcome_at (others.Space s) o)
space_applied ds old e s (Done cs) told = told
space_applied ds old e s (Over w) told = told

pub watcher_applied : (ds : List Definition) (old w : Post) (e : SpaceEvent) (o : Outcome)
    → IsAppliedBy {S = Post} (λ x. x.got) (λ x. watcher ds x.task) (watcher ds old.task) old.got e (outcome_at w o)
    → IsAppliedBy rows_in (λ x. other ds (task_in x)) (watcher ds old.task) old.got e (outcome_at (others.Watcher w) o)
watcher_applied ds old w e (Done cs) told = told
watcher_applied ds old w e (Over n) told = told
