-- The goals of `judge` that the check leaves.
use Rattle.std.proofs.Common.{rules}
use Rattle.sr_pass.specs.Lemmas.Unknown.{unknown_is_refused}
use Rattle.lc_guard.proofs.guards.GuardsJudge.judge.Goals as goal

pub returns-else-knows : goal.returns-else-knows
returns-else-knows g c =
    search (rules, unknown_is_refused)
