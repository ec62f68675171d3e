use Rattle.dsd_keep.proofs.Folded.{commands_fold as folded}
use Rattle.dsd_keep.proofs.laws.commands_fold.Goals as goal

pub returns : goal.returns
returns c = folded
