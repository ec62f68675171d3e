use Rattle.std.proofs.Common.{sym, ◌∙◌}
use Rattle.std.specs.BTreeMap as tree
use Rattle.pv_value.specs.Order.{order}
use Rattle.pv_value.specs.Sets.{ascending_by}
use Rattle.pv_words.specs.Parts.{same}
use Rattle.ds_space.specs.Lemmas.Lists.{listed_is, in_order, ascending_any}
use Rattle.ds_space.proofs.fanning.distinct.Goals as goal

pub returns : goal.returns
returns c =
    let vs = tree.values c.args.rows.now in
    listed_is c.listed.result c.in_ok-set.set (ascending_by order vs) c.listed.ensures.same c.listed.ensures.ascending
    (in_order vs)
    (λ q. c.in_ok-set.ensures q ∙ sym (ascending_any (same q) vs))
