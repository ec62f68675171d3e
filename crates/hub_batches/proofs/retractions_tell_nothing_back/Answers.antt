use Rattle.hub_batches.proofs.Itself.{retractions_tell_nothing_back}
use Rattle.hub_batches.proofs.retractions_tell_nothing_back.Goals as goal

pub returns : goal.returns
returns c = retractions_tell_nothing_back
