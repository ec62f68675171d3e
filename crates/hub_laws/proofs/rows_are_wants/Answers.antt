use Rattle.hub_laws.proofs.LawsHold.{wants}
use Rattle.hub_laws.proofs.rows_are_wants.Goals as goal

pub returns : goal.returns
returns c = wants
