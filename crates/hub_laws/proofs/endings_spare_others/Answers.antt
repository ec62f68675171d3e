use Rattle.hub_laws.proofs.Uncounted.{endings_spare_others}
use Rattle.hub_laws.proofs.endings_spare_others.Goals as goal

pub returns : goal.returns
returns c = endings_spare_others
