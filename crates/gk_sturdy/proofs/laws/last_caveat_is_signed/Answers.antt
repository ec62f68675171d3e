use Rattle.gk_sturdy.specs.Lemmas.Signed.{last_signed}
use Rattle.gk_sturdy.proofs.laws.last_caveat_is_signed.Goals as goal

pub returns : goal.returns
returns c = last_signed
