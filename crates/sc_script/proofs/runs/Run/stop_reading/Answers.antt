use Rattle.std.proofs.Common.{sym, ◌∙◌}
use Rattle.sc_script.proofs.NoPackets.{not_bad, bad_runs, bad_stops}
use Rattle.sc_script.proofs.runs.Run.stop_reading.Goals as goal

pub returns-in-Some-clause-run : goal.returns-in-Some-clause-run
returns-in-Some-clause-run g c =
    bad_runs c.args.connection c.args.next c.args.stream _ _ c.in_ok-run.ensures c.in-Some.fault
    (sym c.in-Some.is ∙ c.fault_of-bad.ensures) c.step.result c.step.ensures.run

pub returns-in-Some-clause-stop : goal.returns-in-Some-clause-stop
returns-in-Some-clause-stop g c =
    bad_stops c.args.connection c.args.next c.args.stream _ _ c.in_ok-run.ensures c.in-Some.fault
    (sym c.in-Some.is ∙ c.fault_of-bad.ensures) c.step.result c.step.ensures.stop

pub returns-in-None-clause-run : goal.returns-in-None-clause-run
returns-in-None-clause-run g c =
    not_bad c.args.connection c.args.next c.args.stream _ _ c.in_ok-run.ensures
    (sym c.in-None.is ∙ c.fault_of-bad.ensures)
