use Rattle.hub_handles.proofs.Drawing.{take_all}
use Rattle.hub_handles.proofs.turns_take_all.Goals as goal

pub returns : goal.returns
returns c = take_all
