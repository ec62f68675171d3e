-- The goals of `unknown_is_refused` that the check leaves.
use Rattle.sr_pass.specs.Lemmas.Unknown.{unknown_is_refused}
use Rattle.sr_pass.proofs.laws.unknown_is_refused.Goals as goal

pub returns : goal.returns
returns c = unknown_is_refused
