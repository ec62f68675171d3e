use Rattle.sc_schema.specs.Lemmas.FaultsPassed.{err_so}
use Rattle.sc_script.specs.Runs.{with_stream}
use Rattle.sc_script.proofs.runs.Run.error_sent.Goals as goal

pub returns-in_err-step-clause-stop : goal.returns-in_err-step-clause-stop
returns-in_err-step-clause-stop g c = err_so _ _ _ c.from_residual-in_err-step.ensures.1 (λ more N d r at.
    c.in_err-step.ensures.stop N d (with_stream c.args.connection c.args.stream r) (c.in_ok-run.ensures N d r at))

pub returns-clause-run : goal.returns-clause-run
returns-clause-run g c = λ N d r at more.
    c.in_ok-step.ensures.run N d (with_stream c.args.connection c.args.stream r) (c.in_ok-run.ensures N d r at)
