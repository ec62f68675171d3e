use Rattle.std.proofs.Common.{◌∙◌, arith}
use Rattle.ds_shape.specs.Keys.{test_value}
use Rattle.ds_shape.proofs.Walks.{orders_end}
use Rattle.ds_shape.proofs.ordering.compare_all_tests.Goals as goal

pub returns : goal.returns
returns c =
    c.cmp.ensures ∙ orders_end test_value c.args.a.now c.args.b.now c.loop-i.i (omega arith) (omega arith)
    ∙ c.loop-i.invariant
