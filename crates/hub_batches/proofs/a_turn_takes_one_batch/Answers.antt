use Rattle.hub_batches.proofs.Taken.{turn_over}
use Rattle.hub_batches.proofs.Ending.{steps_alike}
use Rattle.hub_batches.proofs.a_turn_takes_one_batch.Goals as goal

pub returns-clause-turn : goal.returns-clause-turn
returns-clause-turn c = turn_over

pub returns-clause-step : goal.returns-clause-step
returns-clause-step c = steps_alike
