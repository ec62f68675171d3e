use Rattle.std.proofs.Common.{◌∙◌, arith}
use Rattle.pv_value.proofs.Walks.{bytes_end}
use Rattle.pv_value.proofs.order.compare_bytes.Goals as goal

pub returns : goal.returns
returns c = c.shorter_first.ensures ∙ bytes_end c.args.a.now c.args.b.now c.loop-i.i (omega arith) (omega arith)
    ∙ c.loop-i.invariant
