-- What stands in a list is smaller than the list.
use Rattle.std.proofs.Common.{arith}
use Rattle.pv_value.specs.Lemmas.Smaller.{measure_at, entry_measure_at}
use Rattle.rl_wire.proofs.held.+collect.Goals as goal

pub collect_all-collect-requires : goal.collect_all-collect-requires
collect_all-collect-requires t c =
    (omega (arith, measure_at c.args.values.now c.loop-x.x-index c.x-item.result (omega arith) c.x-item.is), tt)

pub collect_entries-collect-requires : goal.collect_entries-collect-requires
collect_entries-collect-requires t c =
    let h = entry_measure_at c.args.entries.now c.loop-e.e-index c.e-item.result (omega arith) c.e-item.is in
    (omega (arith, h.0), tt)

pub collect_entries-collect-requires-in-loop-e : goal.collect_entries-collect-requires-in-loop-e
collect_entries-collect-requires-in-loop-e t c =
    let h = entry_measure_at c.args.entries.now c.loop-e.e-index c.e-item.result (omega arith) c.e-item.is in
    (omega (arith, h.1), tt)
