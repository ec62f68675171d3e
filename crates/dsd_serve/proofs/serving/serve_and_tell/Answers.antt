-- What is said of serving over the hub, from the reading of its file on: the host gave nothing before.
use Rattle.std.proofs.Common.{◌∙◌}
use Rattle.std.proofs.lemmas.Result.{on_ok_weaker, IfErr-weaker, IfErr-at_err}
use Rattle.out_ports.specs.Ports.{Appends, AppendsFront}
use Rattle.dsd_serve.specs.Causes.{IsWhyUnserved, IsServingFault}
use Rattle.dsd_serve.proofs.Accepting.{raised_from, served_before}
use Rattle.dsd_serve.proofs.Causing.{served_why, never_unread}
use Rattle.dsd_serve.proofs.serving.serve_and_tell.Goals as goal

pub returns-clause-done : goal.returns-clause-done
returns-clause-done g c =
    let before = c.hub_in.ensures.same_host in
    let now = c.serve_hub.new.host in
    on_ok_weaker c.serve_hub.result
    (served_before c.args.serving.now.connections _ _ (g.H.Listen.gave now) _ _ (g.H.Listen.stops now) _ _
    (g.H.Listen.faults now) before.2 before.3 c.hub_in.ensures.lasting.2 Appends _ _) c.serve_hub.ensures.done

pub returns-clause-cut : goal.returns-clause-cut
returns-clause-cut g c = λ e.
    let before = c.hub_in.ensures.same_host in
    let now = c.serve_hub.new.host in
    served_before c.args.serving.now.connections _ _ (g.H.Listen.gave now) _ _ (g.H.Listen.stops now) _ _
    (g.H.Listen.faults now) before.2 before.3 c.hub_in.ensures.lasting.2 AppendsFront _ _ (c.serve_hub.ensures.cut e)

pub returns-clause-cause : goal.returns-clause-cause
returns-clause-cause g c =
    let files = g.H.Listen.files c.args.host.now in
    IfErr-weaker c.serve_hub.result IsServingFault (IsWhyUnserved c.args.serving.now files)
    (served_why c.args.serving.now files) c.serve_hub.ensures.cause

pub returns-clause-read_failed : goal.returns-clause-read_failed
returns-clause-read_failed g c = λ e. absurd (never_unread (IfErr-at_err IsServingFault e c.serve_hub.ensures.cause))

pub returns-clause-listen_failed : goal.returns-clause-listen_failed
returns-clause-listen_failed g c = λ e.
    raised_from 1 _ _ _ c.hub_in.ensures.lasting.1 (c.serve_hub.ensures.listen_failed e)

pub returns-clause-unopened : goal.returns-clause-unopened
returns-clause-unopened g c =
    let before = c.hub_in.ensures.same_host in
    IfErr-weaker c.serve_hub.result _ _ (λ why closed not_4 not_5.
    let now = closed not_4 not_5 in (now.0 ∙ before.1, now.1 ∙ before.2, now.2 ∙ before.3))
    c.serve_hub.ensures.unopened
