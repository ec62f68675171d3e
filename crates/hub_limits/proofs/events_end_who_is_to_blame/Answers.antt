use Rattle.hub_limits.proofs.Blamed.{spreads_so, turn_lists}
use Rattle.hub_limits.proofs.events_end_who_is_to_blame.Goals as goal

pub returns-clause-event : goal.returns-clause-event
returns-clause-event c = spreads_so

pub returns-clause-turn : goal.returns-clause-turn
returns-clause-turn c = turn_lists
