use Rattle.ds_shape.specs.Lemmas.Parts.{parts_each, each_parts}
use Rattle.ds_shape.proofs.laws.parts_are_in_order.Goals as goal

pub returns : goal.returns
returns c = λ paths v xs. (parts_each paths v xs, each_parts paths v xs)
