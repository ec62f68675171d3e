use Rattle.hub_laws.proofs.Posted.{posted_once, are_outboxes}
use Rattle.hub_laws.proofs.posted_as_one_batch.Goals as goal

pub returns-clause-once : goal.returns-clause-once
returns-clause-once c = posted_once

pub returns-clause-outboxes : goal.returns-clause-outboxes
returns-clause-outboxes c = are_outboxes
