use Rattle.turn_gate.proofs.Standing.{rule_holds}
use Rattle.turn_gate.proofs.laws.rule_stands.Goals as goal

pub returns : goal.returns
returns g c = rule_holds g.T.Replayed.next
