use Rattle.dsd_keep.proofs.Folded.{keys_are_not_shown as hidden}
use Rattle.dsd_keep.proofs.laws.keys_are_not_shown.Goals as goal

pub returns : goal.returns
returns c = hidden
