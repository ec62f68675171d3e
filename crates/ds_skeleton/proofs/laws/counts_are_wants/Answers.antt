use Rattle.ds_skeleton.proofs.Lawful.{counts_are}
use Rattle.ds_skeleton.proofs.laws.counts_are_wants.Goals as goal

pub returns : goal.returns
returns c = counts_are
