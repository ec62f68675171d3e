use Rattle.hub_authority.proofs.Orderly.{taken_packets}
use Rattle.hub_authority.proofs.packets_do_what_they_ask.Goals as goal

pub returns : goal.returns
returns c = taken_packets
