use Rattle.std.proofs.Common.{sym, ◌∙◌}
use Rattle.hub_machine.specs.declared.steps.Step.TheVariants as step
use Rattle.sc_events.specs.declared.events.ScriptEvent.TheVariants.{Close}
use Rattle.sc_script.specs.Runs.{after_event, stepped}
use Rattle.sc_script.proofs.PartsPassed.{runs_so, stops_so}
use Rattle.sc_script.proofs.EventCourses.{where_so, where_not}
use Rattle.sc_script.proofs.runs.Run.opened_close.Goals as goal

pub returns-then-not-was_opened-clause-stop : goal.returns-then-not-was_opened-clause-stop
returns-then-not-was_opened-clause-stop g c = λ N d r at.
    where_not c.args.place _ _ (sym c.if-not-was_opened.true ∙ c.was_opened.ensures r at)

pub returns-clause-run : goal.returns-clause-run
returns-clause-run g c =
    runs_so c.args.self (λ N. stepped (step.Close c.args.connection))
    (λ N. after_event N c.args.place (Close c.args.connection))
    (λ N r at. where_so c.args.place _ _ (sym c.if-not-was_opened.false ∙ c.was_opened.ensures r at))
    c.step.result c.step.ensures.run

pub returns-clause-stop : goal.returns-clause-stop
returns-clause-stop g c =
    stops_so c.args.self (λ N. stepped (step.Close c.args.connection))
    (λ N. after_event N c.args.place (Close c.args.connection))
    (λ N r at. where_so c.args.place _ _ (sym c.if-not-was_opened.false ∙ c.was_opened.ensures r at))
    c.step.result c.step.ensures.stop
