-- What sets the server up: the run goes on behind it where it is taken.
use Rattle.sc_script.proofs.Stepping.{set_up_runs, set_up_stops}
use Rattle.sc_script.proofs.runs.Run.set_up.Goals as goal

pub returns-clause-run : goal.returns-clause-run
returns-clause-run g c =
    set_up_runs c.args.place c.args.event c.args.self _ _ c.requires.sets_up c.requires.allowed
    c.in_ok-run.ensures.run c.in_ok-run.ensures.reply c.set_up_by.result c.set_up_by.ensures.run

pub returns-clause-stop : goal.returns-clause-stop
returns-clause-stop g c =
    set_up_stops c.args.place c.args.event c.args.self _ _ c.requires.sets_up c.requires.allowed
    c.in_ok-run.ensures.run c.in_ok-run.ensures.reply c.set_up_by.result c.set_up_by.ensures.stop
