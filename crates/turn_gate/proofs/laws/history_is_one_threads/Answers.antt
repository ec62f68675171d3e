use Rattle.turn_gate.proofs.Standing.{one_threads}
use Rattle.turn_gate.proofs.laws.history_is_one_threads.Goals as goal

pub returns : goal.returns
returns g c = one_threads g.T.Replayed.next
