-- An actor that goes leaves a valid state.
use Rattle.hub_core.proofs.Keeping.{kept_dismissed}
use Rattle.hub_core.proofs.hub.Hub.dismiss.Goals as goal

pub invariant_of-result : goal.invariant_of-result
invariant_of-result g c =
    kept_dismissed c.args.actor c.self.inside.unchecked c.self.inside.world c.in_ok-world.world
    c.self.inside.connections.entries c.self.inside.faults.entries c.in_ok-world.ensures c.self.invariant
