-- A packet that is admitted leaves a valid state.
use Rattle.std.proofs.Common.{◌≡◌, subst}
use Rattle.hub_machine.specs.State.{State}
use Rattle.hub_machine.specs.Admission.{admission, admitted}
use Rattle.hub_valid.specs.Lemmas.Hubs.{accepted_is_valid}
use Rattle.hub_core.proofs.hub.Hub.judge_events.Goals as goal

pub accept-requires-clause-valid : goal.accept-requires-clause-valid
accept-requires-clause-valid g c = λ valid.
    accepted_is_valid c.args.connection c.args.ports c.args.events.now c.in-Ok.admitting c.args.self valid
    c.requires.valid c.as_slice-wired.ensures.sound
    (subst (λ (s : State). admission c.args.connection c.args.ports s.world c.args.events.now
    ≡ admitted c.in-Ok.admitting) c.self.view_is c.in-Ok.ensures.admitted)
