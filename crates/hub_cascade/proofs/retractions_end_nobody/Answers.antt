use Rattle.hub_cascade.proofs.Retractions.{retractions_end_nobody}
use Rattle.hub_cascade.proofs.retractions_end_nobody.Goals as goal

pub returns : goal.returns
returns c = retractions_end_nobody
