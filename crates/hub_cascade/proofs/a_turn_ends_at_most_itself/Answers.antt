use Rattle.hub_cascade.proofs.TurnsOut.{a_turn_ends_at_most_itself}
use Rattle.hub_cascade.proofs.a_turn_ends_at_most_itself.Goals as goal

pub returns : goal.returns
returns c = a_turn_ends_at_most_itself
