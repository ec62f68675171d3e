use Rattle.std.proofs.Common.{subst}
use Rattle.ac_table.specs.Tables.{IsTable}
use Rattle.ac_table.proofs.Keeps.{is_table}
use Rattle.ac_table.proofs.table.Table.keeps_its_order.Goals as goal

pub returns : goal.returns
returns c = subst IsTable c.self.view_is (is_table _ _ _ _ c.self.invariant.kept)
