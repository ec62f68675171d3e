-- A fault that is told is none any more.
use Rattle.std.proofs.Common.{subst, sym}
use Rattle.hub_core.proofs.Small.{AreSmall, small_without}
use Rattle.hub_core.proofs.hub.Hub.tell_fault.Goals as goal

pub invariant_of-self : goal.invariant_of-self
invariant_of-self g c = (
  c.self.invariant.0,
  subst AreSmall (sym c.remove.ensures.entries) (small_without _ _ c.self.invariant.1),
  c.self.invariant.2,
  c.self.invariant.3,
)
