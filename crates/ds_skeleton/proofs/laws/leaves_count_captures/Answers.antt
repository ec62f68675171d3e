use Rattle.ds_skeleton.proofs.Lawful.{leaves_count}
use Rattle.ds_skeleton.proofs.laws.leaves_count_captures.Goals as goal

pub returns : goal.returns
returns c = leaves_count
