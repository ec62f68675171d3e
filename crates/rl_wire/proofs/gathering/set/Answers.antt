-- What ascends makes the set of itself.
use Rattle.std.proofs.Common.{◌∙◌, ap}
use Rattle.pv_value.specs.Plain.{set_of, plains}
use Rattle.rl_wire.proofs.Gathers.{set_made}
use Rattle.rl_wire.proofs.gathering.set.Goals as goal

pub returns-in-Ok : goal.returns-in-Ok
returns-in-Ok c =
    set_made c.in_ok-elements.elements.items c.in-Ok.set c.in_ok-elements.ensures.ascending c.in-Ok.ensures.made
    ∙ ap (λ xs. set_of (plains xs)) c.in_ok-elements.ensures.same
