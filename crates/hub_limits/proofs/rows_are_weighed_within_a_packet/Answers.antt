use Rattle.hub_limits.proofs.Runs.{are_weighed}
use Rattle.hub_limits.proofs.rows_are_weighed_within_a_packet.Goals as goal

pub returns : goal.returns
returns c = are_weighed
