use Rattle.gk_sturdy.specs.Lemmas.Given.{accepted_given}
use Rattle.gk_sturdy.proofs.laws.accepted_is_given.Goals as goal

pub returns : goal.returns
returns c = accepted_given
