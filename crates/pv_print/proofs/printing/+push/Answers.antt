use Rattle.std.proofs.Common.{arith}
use Rattle.pv_value.specs.Lemmas.Smaller.{measure_at}
use Rattle.pv_print.proofs.Measures.{both_measure_at}
use Rattle.pv_print.proofs.printing.+push.Goals as goal

pub push_behind-push_value-requires : goal.push_behind-push_value-requires
push_behind-push_value-requires t c =
    (omega (arith, measure_at c.args.items.now c.loop-x.x-index c.x-item.result (omega arith) c.x-item.is), tt)

pub push_entries_behind-push_entry-requires : goal.push_entries_behind-push_entry-requires
push_entries_behind-push_entry-requires t c =
    (omega (arith, both_measure_at c.args.entries.now c.loop-e.e-index c.e-item.result (omega arith) c.e-item.is), tt)
