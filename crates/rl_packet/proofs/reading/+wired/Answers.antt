use Rattle.std.proofs.Common.{arith}
use Rattle.pv_value.specs.Lemmas.Smaller.{measure_at, entry_measure_at}
use Rattle.rl_packet.proofs.reading.+wired.Goals as goal

pub all_wired-is_wired-requires : goal.all_wired-is_wired-requires
all_wired-is_wired-requires t c =
    (omega (arith, measure_at c.args.values.now c.loop-x.x-index c.x-item.result (omega arith) c.x-item.is), tt)

pub all_pairs_wired-is_wired-requires : goal.all_pairs_wired-is_wired-requires
all_pairs_wired-is_wired-requires t c =
    let h = entry_measure_at c.args.entries.now c.loop-e.e-index c.e-item.result (omega arith) c.e-item.is in
    (omega (arith, h.0), tt)

pub all_pairs_wired-is_wired-requires-else-not-is_wired : goal.all_pairs_wired-is_wired-requires-else-not-is_wired
all_pairs_wired-is_wired-requires-else-not-is_wired t c =
    let h = entry_measure_at c.args.entries.now c.loop-e.e-index c.e-item.result (omega arith) c.e-item.is in
    (omega (arith, h.1), tt)
