use Rattle.pv_binary.proofs.OneOfThree.{one_holds}
use Rattle.pv_binary.proofs.laws.one_of_three.Goals as goal

pub returns : goal.returns
returns c = one_holds
