use Rattle.sc_schema.specs.Lemmas.FaultsPassed.{err_so}
use Rattle.sc_script.proofs.Reading.{stops_first, reads_behind}
use Rattle.sc_script.proofs.runs.Run.turn_sent.Goals as goal

pub returns-in_err-run-clause-stop : goal.returns-in_err-run-clause-stop
returns-in_err-run-clause-stop g c = err_so _ _ _ c.from_residual.ensures.1 (λ more N d r at.
    stops_first _ _ _ (c.in_err-run.ensures.stop N d r at))

pub returns-clause-run : goal.returns-clause-run
returns-clause-run g c = λ N d r at.
    reads_behind _ c.args.connection c.args.stream _ _ _ (c.in_ok-run.ensures.run N d r at)
    (c.in_ok-read_where.ensures.run N d)
