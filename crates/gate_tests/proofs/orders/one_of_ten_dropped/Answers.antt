use Rattle.gate_tests.proofs.orders.one_of_ten_dropped.Goals as goal

pub loop-2-init : goal.loop-2-init
loop-2-init g c =
    let so = c.loop.invariant in
    record { first = so.first; name = so.name; others = c.drop_one.ensures c.in-Ok.gate so.others }
