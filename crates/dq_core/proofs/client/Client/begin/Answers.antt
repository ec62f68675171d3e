-- Neither value holds an embedded value, so both may stand in a packet.
use Rattle.dq_core.proofs.Wired.{plain_wired}
use Rattle.dq_core.proofs.client.Client.begin.Goals as goal

pub opening-requires : goal.opening-requires
opening-requires c = plain_wired c.args.reference c.requires.plain_reference

pub invariant_of-client : goal.invariant_of-client
invariant_of-client c = plain_wired c.args.pattern c.requires.plain_pattern
