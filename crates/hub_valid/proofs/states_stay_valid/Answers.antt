use Rattle.hub_valid.proofs.states_stay_valid.Goals as goal
use Rattle.hub_valid.specs.Lemmas.Hubs.{stays_valid, bound_is_valid}

pub returns-clause-stays : goal.returns-clause-stays
returns-clause-stays c = stays_valid

pub returns-clause-binding : goal.returns-clause-binding
returns-clause-binding c = bound_is_valid
