use Rattle.std.proofs.Common.{sym, ◌∙◌}
use Rattle.std.specs.BTreeMap as tree
use Rattle.pv_value.specs.Order.{order}
use Rattle.ds_skeleton.specs.Leaves.{number}
use Rattle.ds_skeleton.proofs.Answered.{then_ok}
use Rattle.ds_skeleton.proofs.Leaves.{counted_up}
use Rattle.ds_skeleton.proofs.Captures.{one_found, one_other}
use Rattle.ds_skeleton.proofs.capturing.count_parts.Goals as goal

pub returns-then-eq : goal.returns-then-eq
returns-then-eq c =
    then_ok c.count_up.result
    (λ counts q. counted_up (tree.get order c.args.counts.now) (tree.get order c.count_up.new.counts)
    c.args.parts.captures counts q
    ∙ one_found c.args.parts c.args.wanted.now q _ (sym c.eq.ensures ∙ c.if-eq.true))
    c.count_up.ensures.counts

pub returns : goal.returns
returns c q =
    one_other c.args.parts c.args.wanted.now q (number (tree.get order c.args.counts.now q))
    (sym c.eq.ensures ∙ c.if-eq.false)
