use Rattle.dq_core.proofs.Balance.{go_on}
use Rattle.dq_core.proofs.laws.packets_go_on.Goals as goal

pub returns : goal.returns
returns c = go_on
