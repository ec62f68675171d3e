use Rattle.hub_limits.proofs.Watched.{watches_are_fine}
use Rattle.hub_limits.proofs.watches_are_fine.Goals as goal

pub returns : goal.returns
returns c = watches_are_fine
