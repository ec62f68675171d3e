-- Where nobody is left, nothing is to be done.
use Rattle.std.proofs.Common.{sym}
use Rattle.hub_cascade.proofs.Ends.{undone}
use Rattle.hub_core.proofs.hub.Hub.look.Goals as goal

pub returns-in-Nobody : goal.returns-in-Nobody
returns-in-Nobody g c = sym (undone c.args.self c.in-Nobody.ensures)
