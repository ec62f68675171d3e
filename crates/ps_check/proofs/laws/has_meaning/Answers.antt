use Rattle.ps_check.proofs.Meanings.{has_meaning}
use Rattle.ps_check.proofs.laws.has_meaning.Goals as goal

pub returns : goal.returns
returns c = has_meaning
