use Rattle.std.proofs.Common.{◌≡◌, drop}
use Rattle.std.specs.Ordering.{eq_by_cmp}
use Rattle.pv_value.specs.Plain.{plains}
use Rattle.pv_value.specs.Order.{orders}
use Rattle.ps_check.proofs.subjects.are_same.Given as goal

abbrev pub invariant-loop-value : goal.invariant-loop-value
invariant-loop-value l =
    eq_by_cmp orders (plains (drop l.value-index l.values)) (plains l.left)
    ≡ eq_by_cmp orders (plains l.values) (plains l.initial.left)
