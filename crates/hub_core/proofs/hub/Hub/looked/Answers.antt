-- Where nobody is over a limit, nobody is left.
use Rattle.std.proofs.Common.{subst, sym}
use Rattle.hub_core.specs.Looking.{AreWithin}
use Rattle.hub_core.proofs.hub.Hub.looked.Goals as goal

pub invariant_of-self : goal.invariant_of-self
invariant_of-self g c = (
  c.self.invariant.0,
  c.self.invariant.1,
  c.self.invariant.2,
  subst AreWithin (sym c.self.view_is) c.requires,
)
