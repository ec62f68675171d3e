use Rattle.dq_core.proofs.Balance.{added_are_held}
use Rattle.dq_core.proofs.laws.added_lines_are_held.Goals as goal

pub returns : goal.returns
returns c = added_are_held
