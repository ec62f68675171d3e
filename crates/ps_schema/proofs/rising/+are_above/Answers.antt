use Rattle.std.proofs.Common.{arith}
use Rattle.ps_schema.specs.Lemmas.Falls.{pattern_at}
use Rattle.ps_schema.proofs.Climbs.{above_next}
use Rattle.ps_schema.proofs.rising.+are_above.Goals as goal

pub all_are_above-are_above-requires : goal.all_are_above-are_above-requires
all_are_above-are_above-requires t c = (
  omega (
    arith,
    pattern_at c.args.all.now c.loop-pattern.pattern-index c.pattern-item.result (omega arith) c.pattern-item.is,
  ),
  tt,
)

pub all_are_above-loop-pattern-preserved : goal.all_are_above-loop-pattern-preserved
all_are_above-loop-pattern-preserved t c =
    above_next c.args.defs.now c.args.ranks.now c.args.least c.args.all.now c.loop-pattern.pattern-index
    c.pattern-item.result (omega arith) c.pattern-item.is c.loop-pattern.invariant
    (c.are_above.ensures c.if-not-are_above.false)
