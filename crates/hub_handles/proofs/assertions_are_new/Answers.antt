use Rattle.hub_handles.proofs.Drawing.{are_new}
use Rattle.hub_handles.proofs.assertions_are_new.Goals as goal

pub returns : goal.returns
returns c = are_new
