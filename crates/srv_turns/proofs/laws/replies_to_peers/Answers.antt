use Rattle.srv_turns.proofs.Replying.{packet_replied, bad_replied}
use Rattle.srv_turns.proofs.laws.replies_to_peers.Goals as goal

pub returns : goal.returns
returns c = record { packet = packet_replied; bad = bad_replied }
