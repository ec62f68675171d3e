use Rattle.ds_shape.specs.Lemmas.Telling.{outline_tells}
use Rattle.ds_shape.proofs.laws.keys_tell_outlines.Goals as goal

pub returns : goal.returns
returns c = outline_tells
