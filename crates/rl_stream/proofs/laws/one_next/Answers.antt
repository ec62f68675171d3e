use Rattle.rl_stream.proofs.One.{one_is_next}
use Rattle.rl_stream.proofs.laws.one_next.Goals as goal

pub returns : goal.returns
returns c = one_is_next c.one_packet_a_value.ensures c.one_of_three.ensures
