use Rattle.hub_cascade.proofs.Endings.{an_ending_ends_one}
use Rattle.hub_cascade.proofs.an_ending_ends_one.Goals as goal

pub returns : goal.returns
returns c = an_ending_ends_one
