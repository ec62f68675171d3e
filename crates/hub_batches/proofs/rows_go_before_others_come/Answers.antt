use Rattle.hub_batches.proofs.Events.{rows_go_first}
use Rattle.hub_batches.proofs.InOrder.{each_side_ascends}
use Rattle.hub_batches.proofs.rows_go_before_others_come.Goals as goal

pub returns-clause-rows : goal.returns-clause-rows
returns-clause-rows c = rows_go_first

pub returns-clause-sides : goal.returns-clause-sides
returns-clause-sides c = each_side_ascends
