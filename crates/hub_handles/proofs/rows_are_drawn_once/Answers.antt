use Rattle.hub_handles.proofs.Drawing.{rows_once}
use Rattle.hub_handles.proofs.rows_are_drawn_once.Goals as goal

pub returns : goal.returns
returns c = rows_once
