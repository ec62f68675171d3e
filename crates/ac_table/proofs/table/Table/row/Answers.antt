use Rattle.std.proofs.Common.{◌∙◌}
use Rattle.ac_table.proofs.Removing.{found_from}
use Rattle.ac_table.proofs.table.Table.row.Goals as goal

pub returns : goal.returns
returns c = let i = c.self.inside in
    rw (← c.self.view_is) (c.get.ensures.value ∙ found_from i.rows.entries c.args.handle c.self.invariant.kept.keyed)
