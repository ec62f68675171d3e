-- The order of entries is total.
use Rattle.std.specs.Cmp.{IsTotalOrder, then_total, on_total}
use Rattle.pv_value.specs.EntryOrder.{entry_order}
use Rattle.pv_value.specs.Lemmas.OrderLaws.{order_total}
use Rattle.pv_value.specs.declared.Entry.{Entry}

pub entry_order_total : IsTotalOrder entry_order
entry_order_total =
    then_total (on_total (λ (e : Entry). e.key) order_total) (on_total (λ (e : Entry). e.value) order_total)
