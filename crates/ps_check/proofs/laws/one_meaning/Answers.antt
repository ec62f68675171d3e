use Rattle.ps_check.proofs.Meanings.{one_meaning}
use Rattle.ps_check.proofs.laws.one_meaning.Goals as goal

pub returns : goal.returns
returns c = one_meaning
