use Rattle.kp_keeper.proofs.Commanded.{decided}
use Rattle.kp_keeper.proofs.laws.commands_decide.Goals as goal

pub returns : goal.returns
returns c = decided
