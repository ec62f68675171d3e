use Rattle.sc_script.proofs.Stepping.{step_runs, step_stops}
use Rattle.sc_script.proofs.runs.Run.step.Goals as goal

pub returns-clause-run : goal.returns-clause-run
returns-clause-run g c =
    step_runs c.args.event c.args.self _ _ _ c.requires c.in_ok-run.ensures.run c.in_ok-run.ensures.reply
    c.turning-actor.ensures c.replied.result c.replied.ensures.run

pub returns-clause-stop : goal.returns-clause-stop
returns-clause-stop g c =
    step_stops c.args.event c.args.self _ _ _ c.requires c.in_ok-run.ensures.run c.in_ok-run.ensures.reply
    c.turning-actor.ensures c.replied.result c.replied.ensures.stop
