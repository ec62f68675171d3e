-- The course of a binding or of a watcher is that of its event.
use Rattle.std.proofs.Common.{[], sym, ap}
use Rattle.std.proofs.lemmas.Result.{IfOk-weaker, IfErr-weaker}
use Rattle.hub_machine.specs.declared.steps.Step.TheVariants.{Watch}
use Rattle.sc_events.specs.declared.events.ScriptEvent.TheVariants.{Schema}
use Rattle.sc_config.specs.Courses.{set_up, binds, after_event}
use Rattle.sc_config.proofs.Parts.{sets_so, stops_so}
use Rattle.sc_config.proofs.events.with_event.Goals as goal

pub with_binding-requires : goal.with_binding-requires
with_binding-requires g c = c.requires c.in-Bind.binding c.in-Bind.is

pub returns-in-Bind-clause-set : goal.returns-in-Bind-clause-set
returns-in-Bind-clause-set g c =
    sets_so c.args.hub (binds c.args.place c.in-Bind.binding) (after_event c.args.place c.args.event)
    (λ d. ap (λ e. after_event c.args.place e d) (sym c.in-Bind.is)) c.with_binding.result c.with_binding.ensures.set

pub returns-in-Bind-clause-stop : goal.returns-in-Bind-clause-stop
returns-in-Bind-clause-stop g c =
    stops_so c.args.hub (binds c.args.place c.in-Bind.binding) (after_event c.args.place c.args.event)
    (λ d. ap (λ e. after_event c.args.place e d) (sym c.in-Bind.is)) c.with_binding.result c.with_binding.ensures.stop

pub returns-in-Watch-clause-set : goal.returns-in-Watch-clause-set
returns-in-Watch-clause-set g c =
    sets_so c.args.hub (set_up c.args.place (Watch c.in-Watch.watched)) (after_event c.args.place c.args.event)
    (λ d. ap (λ e. after_event c.args.place e d) (sym c.in-Watch.is)) c.set_up.result c.set_up.ensures.set

pub returns-in-Watch-clause-stop : goal.returns-in-Watch-clause-stop
returns-in-Watch-clause-stop g c =
    stops_so c.args.hub (set_up c.args.place (Watch c.in-Watch.watched)) (after_event c.args.place c.args.event)
    (λ d. ap (λ e. after_event c.args.place e d) (sym c.in-Watch.is)) c.set_up.result c.set_up.ensures.stop

pub returns-in-Schema-clause-set : goal.returns-in-Schema-clause-set
returns-in-Schema-clause-set g c =
    sets_so c.args.hub (after_event c.args.place (Schema c.in-Schema.text)) (after_event c.args.place c.args.event)
    (λ d. ap (λ e. after_event c.args.place e d) (sym c.in-Schema.is)) c.with_schema.result
    (IfOk-weaker c.with_schema.result _ _ (λ t h. h []) c.with_schema.ensures.set)

pub returns-in-Schema-clause-stop : goal.returns-in-Schema-clause-stop
returns-in-Schema-clause-stop g c =
    stops_so c.args.hub (after_event c.args.place (Schema c.in-Schema.text)) (after_event c.args.place c.args.event)
    (λ d. ap (λ e. after_event c.args.place e d) (sym c.in-Schema.is)) c.with_schema.result
    (IfErr-weaker c.with_schema.result _ _ (λ f h. h []) c.with_schema.ensures.stop)
