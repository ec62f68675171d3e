-- A binding: its guards' names are known and it is set up, or it is bad.
use Rattle.std.proofs.Common.{ap, ◌∙◌}
use Rattle.sc_config.specs.Courses.{binds, set_up}
use Rattle.hub_machine.specs.declared.steps.Step.TheVariants.{Bind}
use Rattle.sc_config.proofs.Setting.{as_asked, unknown, known}
use Rattle.sc_config.proofs.Parts.{sets_where, stops_where}
use Rattle.sc_config.proofs.events.with_binding.Goals as goal

pub returns-then-not-all_known-clause-stop : goal.returns-then-not-all_known-clause-stop
returns-then-not-all_known-clause-stop g c = λ d at.
    let behind = c.as_slice.ensures ∙ ap (λ x. x.cap.caveats) c.binding.view_is in
    unknown c.args.place c.args.binding d c.args.hub at (as_asked c.args.place c.args.binding d c.args.hub at _ _ _ _
    c.judge.ensures behind c.all_known.ensures c.if-not-all_known.true)

pub returns-clause-set : goal.returns-clause-set
returns-clause-set g c =
    let behind = c.as_slice.ensures ∙ ap (λ x. x.cap.caveats) c.binding.view_is in
    sets_where c.args.hub (set_up c.args.place (Bind c.args.binding)) (binds c.args.place c.args.binding)
    (λ d at. known c.args.place c.args.binding d c.args.hub at (as_asked c.args.place c.args.binding d c.args.hub at
    _ _ _ _ c.judge.ensures behind c.all_known.ensures c.if-not-all_known.false))
    c.set_up.result c.set_up.ensures.set

pub returns-clause-stop : goal.returns-clause-stop
returns-clause-stop g c =
    let behind = c.as_slice.ensures ∙ ap (λ x. x.cap.caveats) c.binding.view_is in
    stops_where c.args.hub (set_up c.args.place (Bind c.args.binding)) (binds c.args.place c.args.binding)
    (λ d at. known c.args.place c.args.binding d c.args.hub at (as_asked c.args.place c.args.binding d c.args.hub at
    _ _ _ _ c.judge.ensures behind c.all_known.ensures c.if-not-all_known.false))
    c.set_up.result c.set_up.ensures.stop
