use Rattle.hub_limits.proofs.Barred.{barred_for_a_cause}
use Rattle.hub_limits.proofs.barred_for_a_cause.Goals as goal

pub returns : goal.returns
returns c = barred_for_a_cause
