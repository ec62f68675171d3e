-- Values by their marks, and those of one mark by the total order of values.
use Rattle.std.specs.declared.cmp.Ordering.{Ordering}
use Rattle.std.specs.Ordering.{ordering_then, nat_cmp}
use Rattle.pv_value.specs.Plain.{Plain}
use Rattle.pv_value.specs.Order.{order}
use Rattle.pv_marks.specs.Marks.{mark}

abbrev pub marked_order : Plain → Plain → Ordering
marked_order x y = ordering_then (nat_cmp (mark x) (mark y)) (order x y)
