use Rattle.std.proofs.Common.{arith}
use Rattle.ps_schema.specs.Lemmas.Falls.{pattern_at}
use Rattle.ps_schema.proofs.Visits.{sees_next}
use Rattle.ps_schema.proofs.ways.+see.Goals as goal

pub see_all-see-requires : goal.see_all-see-requires
see_all-see-requires t c = (
  omega (
    arith,
    pattern_at c.args.all.now c.loop-pattern.pattern-index c.pattern-item.result (omega arith) c.pattern-item.is,
  ),
  tt,
)

pub see_all-loop-pattern-preserved : goal.see_all-loop-pattern-preserved
see_all-loop-pattern-preserved t c =
    sees_next c.args.defs.now c.args.all.now c.loop-pattern.pattern-index c.pattern-item.result
    c.args.seen.now.items c.loop-pattern.seen.items c.see.new.seen.items (omega arith) c.pattern-item.is
    c.loop-pattern.invariant c.in_ok-see.ensures
