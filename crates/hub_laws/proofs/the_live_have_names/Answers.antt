use Rattle.hub_laws.proofs.Presence.{presence}
use Rattle.hub_laws.proofs.the_live_have_names.Goals as goal

pub returns : goal.returns
returns c = presence
