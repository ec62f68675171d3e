use Rattle.rl_stream.proofs.NextDecided.{has_decider}
use Rattle.rl_stream.proofs.laws.next_is_decided.Goals as goal

pub returns : goal.returns
returns c = has_decider c.one_of_three.ensures
