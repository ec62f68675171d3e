use Rattle.ds_shape.specs.Lemmas.Saying.{tell}
use Rattle.ds_shape.proofs.laws.constants_tell.Goals as goal

pub returns : goal.returns
returns c = tell
