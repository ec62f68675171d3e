use Rattle.hub_handles.proofs.Drawing.{are_drawn}
use Rattle.hub_handles.proofs.handles_are_drawn.Goals as goal

pub returns : goal.returns
returns c = are_drawn
