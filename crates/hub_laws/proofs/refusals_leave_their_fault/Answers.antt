use Rattle.hub_laws.proofs.Refusing.{refusals}
use Rattle.hub_laws.proofs.refusals_leave_their_fault.Goals as goal

pub returns : goal.returns
returns c = refusals
