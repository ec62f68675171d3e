-- The goals of `binds` that the check leaves.
use Rattle.std.proofs.Common.{arith}
use Rattle.sr_caveat.specs.Lemmas.Falls.{pattern_at}
use Rattle.sr_caveat.proofs.binds.+binds.Goals as goal

pub all_binds-binds-requires : goal.all_binds-binds-requires
all_binds-binds-requires t c = (
  omega (
    arith,
    pattern_at c.args.patterns.now c.loop-pattern.pattern-index c.pattern-item.result (omega arith) c.pattern-item.is,
  ),
  tt,
)
