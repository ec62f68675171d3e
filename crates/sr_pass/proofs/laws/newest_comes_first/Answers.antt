-- The goals of `newest_comes_first` that the check leaves.
use Rattle.sr_pass.proofs.Passes.{newest_first}
use Rattle.sr_pass.proofs.laws.newest_comes_first.Goals as goal

pub returns : goal.returns
returns c = newest_first
