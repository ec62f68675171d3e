use Rattle.hub_authority.proofs.Naming.{names_mean}
use Rattle.hub_authority.proofs.names_mean_what_was_told.Goals as goal

pub returns : goal.returns
returns c = names_mean
