use Rattle.ds_shape.specs.Lemmas.Telling.{outline_order_total, outline_order_same}
use Rattle.ds_shape.proofs.laws.outlines_are_in_order.Goals as goal

pub returns : goal.returns
returns c = record { total = outline_order_total; same = outline_order_same }
