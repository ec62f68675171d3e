-- Each event: its course is that of the binding, of the step, of the bytes, of the turn or of the turns that it is.
use Rattle.std.proofs.Common.{[], Err, refl}
use Rattle.std.proofs.lemmas.Result.{IfOk-weaker, IfErr-weaker}
use Rattle.sc_events.specs.declared.events.ScriptEvent.TheVariants.{Bind, Watch, Open, Bytes, Close, Turn, Drain}
use Rattle.sc_events.specs.declared.events.ScriptEvent.TheVariants.{LongDrain, Schema}
use Rattle.sc_script.specs.declared.faults.ScriptFault.TheVariants as fault
use Rattle.sc_script.proofs.EventCourses.{event_runs, event_stops}
use Rattle.sc_script.proofs.runs.Run.event.Goals as goal

pub bind-requires : goal.bind-requires
bind-requires g c = c.requires c.in-Bind.binding c.in-Bind.is

pub returns-in-Bind-clause-run : goal.returns-in-Bind-clause-run
returns-in-Bind-clause-run g c =
    event_runs c.args.self c.args.place c.args.event (Bind c.in-Bind.binding) c.in-Bind.is c.bind.result
    c.bind.ensures.run

pub returns-in-Bind-clause-stop : goal.returns-in-Bind-clause-stop
returns-in-Bind-clause-stop g c =
    event_stops c.args.self c.args.place c.args.event (Bind c.in-Bind.binding) c.in-Bind.is c.bind.result
    c.bind.ensures.stop

pub returns-in-Watch-clause-run : goal.returns-in-Watch-clause-run
returns-in-Watch-clause-run g c =
    event_runs c.args.self c.args.place c.args.event (Watch c.in-Watch.watched) c.in-Watch.is c.set_up.result
    c.set_up.ensures.run

pub returns-in-Watch-clause-stop : goal.returns-in-Watch-clause-stop
returns-in-Watch-clause-stop g c =
    event_stops c.args.self c.args.place c.args.event (Watch c.in-Watch.watched) c.in-Watch.is c.set_up.result
    c.set_up.ensures.stop

pub returns-in-Open-clause-run : goal.returns-in-Open-clause-run
returns-in-Open-clause-run g c =
    event_runs c.args.self c.args.place c.args.event (Open c.in-Open.space) c.in-Open.is c.step.result
    c.step.ensures.run

pub returns-in-Open-clause-stop : goal.returns-in-Open-clause-stop
returns-in-Open-clause-stop g c =
    event_stops c.args.self c.args.place c.args.event (Open c.in-Open.space) c.in-Open.is c.step.result
    c.step.ensures.stop

pub returns-in-Bytes-clause-run : goal.returns-in-Bytes-clause-run
returns-in-Bytes-clause-run g c =
    event_runs c.args.self c.args.place c.args.event
    (Bytes c.in-Bytes.connection c.in-Bytes.bytes) c.in-Bytes.is c.opened_bytes.result
    c.opened_bytes.ensures.run

pub returns-in-Bytes-clause-stop : goal.returns-in-Bytes-clause-stop
returns-in-Bytes-clause-stop g c =
    event_stops c.args.self c.args.place c.args.event
    (Bytes c.in-Bytes.connection c.in-Bytes.bytes) c.in-Bytes.is c.opened_bytes.result
    c.opened_bytes.ensures.stop

pub returns-in-Close-clause-run : goal.returns-in-Close-clause-run
returns-in-Close-clause-run g c =
    event_runs c.args.self c.args.place c.args.event (Close c.in-Close.connection) c.in-Close.is c.opened_close.result
    c.opened_close.ensures.run

pub returns-in-Close-clause-stop : goal.returns-in-Close-clause-stop
returns-in-Close-clause-stop g c =
    event_stops c.args.self c.args.place c.args.event (Close c.in-Close.connection) c.in-Close.is c.opened_close.result
    c.opened_close.ensures.stop

pub returns-in-Turn-clause-run : goal.returns-in-Turn-clause-run
returns-in-Turn-clause-run g c =
    event_runs c.args.self c.args.place c.args.event (Turn c.in-Turn.actor) c.in-Turn.is c.asked_turn.result
    c.asked_turn.ensures.run

pub returns-in-Turn-clause-stop : goal.returns-in-Turn-clause-stop
returns-in-Turn-clause-stop g c =
    event_stops c.args.self c.args.place c.args.event (Turn c.in-Turn.actor) c.in-Turn.is c.asked_turn.result
    c.asked_turn.ensures.stop

pub returns-in-Drain-clause-run : goal.returns-in-Drain-clause-run
returns-in-Drain-clause-run g c =
    event_runs c.args.self c.args.place c.args.event (Drain c.in-Drain.turns) c.in-Drain.is c.drain.result
    c.drain.ensures.run

pub returns-in-Drain-clause-stop : goal.returns-in-Drain-clause-stop
returns-in-Drain-clause-stop g c =
    event_stops c.args.self c.args.place c.args.event (Drain c.in-Drain.turns) c.in-Drain.is c.drain.result
    c.drain.ensures.stop

pub returns-in-LongDrain-clause-stop : goal.returns-in-LongDrain-clause-stop
returns-in-LongDrain-clause-stop g c =
    event_stops c.args.self c.args.place c.args.event LongDrain c.in-LongDrain.is (Err (fault.Limit 3))
    (λ N d r at. refl)

pub returns-clause-run : goal.returns-clause-run
returns-clause-run g c =
    event_runs c.args.self c.args.place c.args.event (Schema _) c.in-Schema.is c.schema_at.result
    (IfOk-weaker c.schema_at.result _ _ (λ t h. h []) c.schema_at.ensures.run)

pub returns-clause-stop : goal.returns-clause-stop
returns-clause-stop g c =
    event_stops c.args.self c.args.place c.args.event (Schema _) c.in-Schema.is c.schema_at.result
    (IfErr-weaker c.schema_at.result _ _ (λ f h. h []) c.schema_at.ensures.stop)
