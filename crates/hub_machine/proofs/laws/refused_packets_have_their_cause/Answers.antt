use Rattle.hub_machine.proofs.Refusing.{for_its_cause}
use Rattle.hub_machine.proofs.laws.refused_packets_have_their_cause.Goals as goal

pub returns : goal.returns
returns c = for_its_cause
