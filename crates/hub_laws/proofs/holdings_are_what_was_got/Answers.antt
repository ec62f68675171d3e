use Rattle.hub_laws.proofs.Opening.{replay_hub}
use Rattle.hub_laws.proofs.Sending.{holdings_hold, notes_hold}
use Rattle.hub_laws.proofs.holdings_are_what_was_got.Goals as goal

pub returns-clause-holdings : goal.returns-clause-holdings
returns-clause-holdings c = holdings_hold replay_hub

pub returns-clause-notes : goal.returns-clause-notes
returns-clause-notes c = notes_hold replay_hub
