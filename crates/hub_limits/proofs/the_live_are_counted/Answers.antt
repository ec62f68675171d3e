use Rattle.hub_limits.proofs.Counted.{who_is_counted}
use Rattle.hub_limits.proofs.the_live_are_counted.Goals as goal

pub returns : goal.returns
returns c = who_is_counted
