use Rattle.rl_packet.proofs.Events.{one_packet}
use Rattle.rl_packet.proofs.laws.one_packet_a_value.Goals as goal

pub returns : goal.returns
returns c = one_packet
