-- The names that were taken out are put back, with what was exported.
use Rattle.std.proofs.Common.{◌≡◌, Option, ap, ◌∙◌, subst}
use Rattle.std.specs.Prelude.{IfOk}
use Rattle.rl_ports.specs.Ports.{PortsState}
use Rattle.hub_machine.specs.State.{State}
use Rattle.hub_machine.specs.Machine.{After, tell, telling_fault}
use Rattle.hub_core.specs.Telling.{told_by}
use Rattle.hub_core.proofs.Tellings.{told_nameless}
use Rattle.hub_core.proofs.hub.Hub.tell.Goals as goal

pub returns-in-Some-clause-state : goal.returns-in-Some-clause-state
returns-in-Some-clause-state g c =
    let k = c.args.connection in
    let b = c.args.batch in
    let p = c.in-Some.ports in
    subst (λ (s : State). IfOk c.tell_by.result (λ done. done.0 ≡ s))
    (ap (λ (s : State). (told_by (telling_fault k b p) k p b s).state) c.in-Some.ensures.state
    ∙ ap (λ (x : After). x.state) (told_nameless (telling_fault k b p) k p b c.args.self c.in-Some.ensures.ordered)
    ∙ ap (λ (o : Option PortsState). (tell k o b c.args.self).state) c.in-Some.ensures.ports)
    c.tell_by.ensures.state
