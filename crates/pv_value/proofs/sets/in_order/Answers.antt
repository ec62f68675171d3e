use Rattle.pv_value.proofs.Ascends.{ascends_from_sort, never_so}
use Rattle.pv_value.proofs.sets.in_order.Goals as goal

pub returns-clause-none : goal.returns-clause-none
returns-clause-none c = λ e apart.
    let sorted = ascends_from_sort _ _ apart c.sort_unstable.ensures.permutation c.sort_unstable.ensures.sorted in
    never_so c.do_ascend-2.result c.if-do_ascend-2.false (c.do_ascend-2.ensures.no (rw c.deref-2.ensures.value sorted))
