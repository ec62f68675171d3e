-- The goals of `judge` that the check leaves.
use Rattle.std.proofs.Common.{[], refl, sym}
use Rattle.sr_pass.specs.Lemmas.Unknown.{unknown_is_refused}
use Rattle.sr_pass.proofs.passing.NoNamesJudge.judge.Goals as goal

pub returns : goal.returns
returns c = sym (unknown_is_refused [] _ _ refl)
