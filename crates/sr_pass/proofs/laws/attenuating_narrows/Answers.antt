-- The goals of `attenuating_narrows` that the check leaves.
use Rattle.sr_pass.proofs.Passes.{narrows}
use Rattle.sr_pass.proofs.laws.attenuating_narrows.Goals as goal

pub returns : goal.returns
returns c = narrows
