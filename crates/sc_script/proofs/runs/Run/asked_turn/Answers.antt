use Rattle.std.proofs.Common.{sym, ◌∙◌}
use Rattle.sc_events.specs.declared.events.ScriptEvent.TheVariants.{Turn}
use Rattle.sc_script.specs.Runs.{after_event, turned}
use Rattle.sc_script.proofs.PartsPassed.{runs_so, stops_so}
use Rattle.sc_script.proofs.EventCourses.{where_so, where_not}
use Rattle.sc_script.proofs.runs.Run.asked_turn.Goals as goal

pub returns-then-not-may_turn-clause-stop : goal.returns-then-not-may_turn-clause-stop
returns-then-not-may_turn-clause-stop g c = λ N d r at.
    where_not c.args.place _ _ (sym c.if-not-may_turn.true ∙ c.may_turn.ensures r at)

pub returns-clause-run : goal.returns-clause-run
returns-clause-run g c =
    runs_so c.args.self (λ N. turned c.args.actor) (λ N. after_event N c.args.place (Turn c.args.actor))
    (λ N r at. where_so c.args.place _ _ (sym c.if-not-may_turn.false ∙ c.may_turn.ensures r at))
    c.turn.result c.turn.ensures.run

pub returns-clause-stop : goal.returns-clause-stop
returns-clause-stop g c =
    stops_so c.args.self (λ N. turned c.args.actor) (λ N. after_event N c.args.place (Turn c.args.actor))
    (λ N r at. where_so c.args.place _ _ (sym c.if-not-may_turn.false ∙ c.may_turn.ensures r at))
    c.turn.result c.turn.ensures.stop
