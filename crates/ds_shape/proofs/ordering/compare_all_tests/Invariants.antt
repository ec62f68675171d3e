use Rattle.std.proofs.Common.{◌≡◌, map, drop}
use Rattle.pv_value.specs.Plain.{plains}
use Rattle.pv_value.specs.Order.{orders}
use Rattle.ds_shape.specs.Keys.{test_value}
use Rattle.ds_shape.proofs.ordering.compare_all_tests.Given as goal

abbrev pub invariant-loop-i : goal.invariant-loop-i
invariant-loop-i l =
    orders (plains (map test_value (drop l.i l.a))) (plains (map test_value (drop l.i l.b)))
    ≡ orders (plains (map test_value l.a)) (plains (map test_value l.b))
