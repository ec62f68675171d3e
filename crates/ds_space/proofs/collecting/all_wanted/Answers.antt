use Rattle.std.proofs.Common.{sym, ◌∙◌}
use Rattle.std.specs.BTreeMap as tree
use Rattle.ds_space.specs.Wants.{wants}
use Rattle.ds_space.specs.Lemmas.Lists.{listed_is, wants_ascend, among_wants}
use Rattle.ds_space.proofs.collecting.all_wanted.Goals as goal

pub returns : goal.returns
returns c =
    let vs = tree.values c.args.rows.now in
    listed_is c.listed.result c.in_ok-keys.keys (wants vs) c.listed.ensures.same c.listed.ensures.ascending
    (wants_ascend vs)
    (λ q. c.in_ok-keys.ensures q ∙ sym (among_wants q vs))
