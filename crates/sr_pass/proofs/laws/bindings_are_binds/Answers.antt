-- The goals of `bindings_are_binds` that the check leaves.
use Rattle.sr_pass.proofs.Gathering.{bindings_binds}
use Rattle.sr_pass.proofs.laws.bindings_are_binds.Goals as goal

pub returns : goal.returns
returns c = bindings_binds
