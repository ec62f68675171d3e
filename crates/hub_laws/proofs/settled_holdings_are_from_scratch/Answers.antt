use Rattle.hub_laws.proofs.FromScratch.{settled_from}
use Rattle.hub_laws.proofs.Opening.{replay_hub}
use Rattle.hub_laws.proofs.Sending.{holdings_hold}
use Rattle.hub_laws.proofs.settled_holdings_are_from_scratch.Goals as goal

pub returns : goal.returns
returns c = settled_from (holdings_hold replay_hub) replay_hub
