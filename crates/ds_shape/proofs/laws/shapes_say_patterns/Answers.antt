use Rattle.ds_shape.specs.Lemmas.Saying.{matched_says}
use Rattle.ds_shape.proofs.laws.shapes_say_patterns.Goals as goal

pub returns : goal.returns
returns c = matched_says
