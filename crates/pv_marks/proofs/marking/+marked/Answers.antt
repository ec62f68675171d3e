use Rattle.std.proofs.Common.{arith}
use Rattle.pv_value.specs.Lemmas.Smaller.{measure_at, entry_measure_at}
use Rattle.pv_marks.proofs.marking.+marked.Goals as goal

pub all_marked-marked-mark-requires : goal.all_marked-marked-mark-requires
all_marked-marked-mark-requires t c =
    let h = measure_at c.args.items.now c.loop-item.item-index c.item-item.result (omega arith) c.item-item.is in
    (omega (arith, h), tt)

pub pairs_marked-marked-mark-requires : goal.pairs_marked-marked-mark-requires
pairs_marked-marked-mark-requires t c =
    let es = c.args.entries.now in
    let h = entry_measure_at es c.loop-entry.entry-index c.entry-item.result (omega arith) c.entry-item.is in
    (omega (arith, h.0), tt)

pub pairs_marked-marked-mark-requires-in-loop-entry : goal.pairs_marked-marked-mark-requires-in-loop-entry
pairs_marked-marked-mark-requires-in-loop-entry t c =
    let es = c.args.entries.now in
    let h = entry_measure_at es c.loop-entry.entry-index c.entry-item.result (omega arith) c.entry-item.is in
    (omega (arith, h.1), tt)
