use Rattle.std.proofs.Common.{arith}
use Rattle.pv_value.specs.Lemmas.Smaller.{measure_at, entry_measure_at}
use Rattle.pv_binary.proofs.writing.+write.Goals as goal

pub push_entries-write_into-requires : goal.push_entries-write_into-requires
push_entries-write_into-requires t c =
    let h = entry_measure_at c.args.entries.now c.loop-e.e-index c.e-item.result (omega arith) c.e-item.is in
    (omega (arith, h.0), tt)

pub push_entries-write_into-requires-in-loop-e : goal.push_entries-write_into-requires-in-loop-e
push_entries-write_into-requires-in-loop-e t c =
    let h = entry_measure_at c.args.entries.now c.loop-e.e-index c.e-item.result (omega arith) c.e-item.is in
    (omega (arith, h.1), tt)

pub push_all-write_into-requires : goal.push_all-write_into-requires
push_all-write_into-requires t c =
    (omega (arith, measure_at c.args.items.now c.loop-x.x-index c.x-item.result (omega arith) c.x-item.is), tt)
