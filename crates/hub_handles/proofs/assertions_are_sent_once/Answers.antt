use Rattle.hub_handles.proofs.Sending.{sent_once}
use Rattle.hub_handles.proofs.assertions_are_sent_once.Goals as goal

pub returns : goal.returns
returns c = sent_once
