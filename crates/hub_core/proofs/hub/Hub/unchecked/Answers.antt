-- Who is left is told of the hub's parts.
use Rattle.std.proofs.Common.{subst}
use Rattle.hub_machine.specs.State.{State}
use Rattle.hub_core.specs.Looking.{AreLeft}
use Rattle.hub_core.proofs.hub.Hub.unchecked.Goals as goal

pub returns : goal.returns
returns g c =
    subst (λ (s : State). AreLeft c.self.inside.unchecked s.world s.connections) c.self.view_is c.self.invariant.3
