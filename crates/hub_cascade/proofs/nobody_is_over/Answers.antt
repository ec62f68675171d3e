use Rattle.hub_cascade.proofs.Over.{nobody_over}
use Rattle.hub_cascade.proofs.nobody_is_over.Goals as goal

pub returns : goal.returns
returns c = nobody_over
