use Rattle.hub_machine.proofs.Unchanging.{nothing_changes}
use Rattle.hub_machine.proofs.laws.refusals_change_nothing.Goals as goal

pub returns : goal.returns
returns c = nothing_changes
