use Rattle.turn_gate.proofs.Standing.{stands_once}
use Rattle.turn_gate.proofs.laws.each_stands_once.Goals as goal

pub returns : goal.returns
returns g c = stands_once g.T.Replayed.next
