-- A connection that names nothing any more leaves the rest as it was.
use Rattle.hub_core.proofs.Keeping.{kept_without}
use Rattle.hub_core.proofs.hub.Hub.fail.Goals as goal

pub invariant_of-self : goal.invariant_of-self
invariant_of-self g c =
    kept_without c.args.connection c.self.inside.unchecked c.self.inside.world c.self.inside.connections.entries
    c.remove.new.self.entries c.self.inside.faults.entries c.remove.ensures.entries c.self.invariant
