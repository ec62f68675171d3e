-- What was answered to a step that sets the server up: it is taken, or stops the run.
use Rattle.std.proofs.Common.{refl, ap}
use Rattle.sc_script.specs.Runs.{unless_barred}
use Rattle.sc_script.proofs.runs.Run.set_up_by.Goals as goal

pub returns-in-Worn-clause-stop : goal.returns-in-Worn-clause-stop
returns-in-Worn-clause-stop g c = λ r. ap (λ x. unless_barred c.args.place x r) c.in-Worn.is

pub returns-in-Barred-clause-stop : goal.returns-in-Barred-clause-stop
returns-in-Barred-clause-stop g c = λ r. ap (λ x. unless_barred c.args.place x r) c.in-Barred.is

pub returns-in_default-clause-run : goal.returns-in_default-clause-run
returns-in_default-clause-run g c = (refl, (c.in_default.not-Worn, c.in_default.not-Barred))
