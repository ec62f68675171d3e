use Rattle.std.proofs.Common.{arith}
use Rattle.ps_schema.specs.Lemmas.Falls.{pattern_at}
use Rattle.ps_schema.proofs.ranks.+list_asked.Goals as goal

pub list_all_asked-list_asked-requires : goal.list_all_asked-list_asked-requires
list_all_asked-list_asked-requires t c = (
  omega (
    arith,
    pattern_at c.args.all.now c.loop-pattern.pattern-index c.pattern-item.result (omega arith) c.pattern-item.is,
  ),
  tt,
)
