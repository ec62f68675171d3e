use Rattle.pv_marks.specs.Lemmas.MarkedOrderLaws.{marked_order_total, marked_order_same}
use Rattle.pv_marks.proofs.marks.marked_order_is_total.Goals as goal

pub returns : goal.returns
returns c = record { total = marked_order_total; same = marked_order_same }
