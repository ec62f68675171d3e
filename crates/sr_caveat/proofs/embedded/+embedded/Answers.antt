-- The goals of `embedded` that the check leaves.
use Rattle.std.proofs.Common.{arith}
use Rattle.pv_value.specs.Lemmas.Smaller.{measure_at, entry_measure_at}
use Rattle.sr_caveat.proofs.embedded.+embedded.Goals as goal

pub any_embedded-has_embedded-requires : goal.any_embedded-has_embedded-requires
any_embedded-has_embedded-requires t c =
    (omega (arith, measure_at c.args.values.now c.loop-x.x-index c.x-item.result (omega arith) c.x-item.is), tt)

pub any_pair_embedded-has_embedded-requires : goal.any_pair_embedded-has_embedded-requires
any_pair_embedded-has_embedded-requires t c =
    let h = entry_measure_at c.args.entries.now c.loop-e.e-index c.e-item.result (omega arith) c.e-item.is in
    (omega (arith, h.0), tt)

pub any_pair_embedded-has_embedded-requires-else-has_embedded :
    goal.any_pair_embedded-has_embedded-requires-else-has_embedded
any_pair_embedded-has_embedded-requires-else-has_embedded t c =
    let h = entry_measure_at c.args.entries.now c.loop-e.e-index c.e-item.result (omega arith) c.e-item.is in
    (omega (arith, h.1), tt)
