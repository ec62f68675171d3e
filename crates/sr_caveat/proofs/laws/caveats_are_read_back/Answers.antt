-- The goals of `caveats_are_read_back` that the check leaves.
use Rattle.sr_caveat.specs.Lemmas.CaveatsBack.{read_back}
use Rattle.sr_caveat.proofs.laws.caveats_are_read_back.Goals as goal

pub returns : goal.returns
returns c = read_back
