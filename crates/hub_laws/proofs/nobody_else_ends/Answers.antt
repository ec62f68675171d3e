use Rattle.hub_laws.proofs.WatchersLeave.{which_watchers_end}
use Rattle.hub_laws.proofs.WhoLeaves.{who_ends, ends_at_once}
use Rattle.hub_laws.proofs.nobody_else_ends.Goals as goal

pub returns-clause-ends : goal.returns-clause-ends
returns-clause-ends c = who_ends

pub returns-clause-watchers : goal.returns-clause-watchers
returns-clause-watchers c = which_watchers_end

pub returns-clause-weighed : goal.returns-clause-weighed
returns-clause-weighed c = ends_at_once
