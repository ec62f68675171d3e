-- The law is among what is known, and is found there.
use Rattle.std.proofs.Common.{rules}
use Rattle.hub_laws.specs.Laws.{SettledHoldings}
use Rattle.dsd_top.proofs.Reported.{reported}
use Rattle.dsd_top.proofs.answers.report_in.Goals as goal

pub returns-clause-answer : goal.returns-clause-answer
returns-clause-answer c =
    let law : SettledHoldings = search rules in
    reported c.args.input c.args.form _ _ _ _ law c.in_ok-ran.ensures.run c.in_ok-value.ensures
    c.in_ok-value_in.ensures
