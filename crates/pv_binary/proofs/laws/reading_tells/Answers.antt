use Rattle.pv_binary.proofs.OneOfThree.{reading_tells}
use Rattle.pv_binary.proofs.laws.reading_tells.Goals as goal

pub returns : goal.returns
returns c = reading_tells
