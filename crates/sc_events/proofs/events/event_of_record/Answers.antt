use Rattle.std.proofs.Common.{arith}
use Rattle.std.proofs.lemmas.Bool.Decides.{nat_tests}
use Rattle.sc_events.proofs.Fielded.{no_record}
use Rattle.sc_events.proofs.events.event_of_record.Goals as goal

pub returns-in_default : goal.returns-in_default
returns-in_default c = no_record c.args.word.now c.args.fields.now (grind (arith, nat_tests, c.in_default.branch))
    (grind (arith, nat_tests, c.in_default.branch)) (grind (arith, nat_tests, c.in_default.branch))
