use Rattle.std.proofs.Common.{◌||◌, ap, ◌∙◌}
use Rattle.std.specs.BTreeSet as sorted
use Rattle.pv_value.specs.Order.{order}
use Rattle.pv_words.specs.Parts.{same}
use Rattle.ds_space.specs.Lemmas.Keys.{or_cond, same_turns}
use Rattle.ds_space.proofs.fanning.put_standing.Goals as goal

pub returns : goal.returns
returns c q =
    c.in_ok-insert.ensures.updates.0 q
    ∙ or_cond (same c.args.standing q) (sorted.contains order c.args.set.now q)
    ∙ ap (λ b. sorted.contains order c.args.set.now q || b) (same_turns c.args.standing q)
