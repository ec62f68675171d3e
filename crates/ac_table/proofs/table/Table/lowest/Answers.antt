use Rattle.std.proofs.Common.{◌∙◌, ap}
use Rattle.ac_table.specs.Tables.{lowest}
use Rattle.ac_table.proofs.Lowest.{lowest_from}
use Rattle.ac_table.proofs.table.Table.lowest.Goals as goal

pub returns : goal.returns
returns c = let i = c.self.inside in
    let k = c.self.invariant.kept in
    c.copied.ensures
    ∙ lowest_from i.busy i.actors.entries c.first.result k.actors_ascend k.busy_is
    c.first.ensures.variant.1 c.first.ensures.member c.first.ensures.least
    ∙ ap lowest c.self.view_is
