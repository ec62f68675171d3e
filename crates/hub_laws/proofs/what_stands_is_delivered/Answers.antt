use Rattle.hub_laws.proofs.LawsHold.{delivery}
use Rattle.hub_laws.proofs.what_stands_is_delivered.Goals as goal

pub returns : goal.returns
returns c = delivery
