use Rattle.hub_laws.proofs.Presence.{handles_rise}
use Rattle.hub_laws.proofs.handles_never_go_back.Goals as goal

pub returns : goal.returns
returns c = handles_rise
