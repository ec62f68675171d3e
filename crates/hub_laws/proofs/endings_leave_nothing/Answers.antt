use Rattle.hub_laws.proofs.LawsHold.{have_ended}
use Rattle.hub_laws.proofs.endings_leave_nothing.Goals as goal

pub returns : goal.returns
returns c = have_ended
