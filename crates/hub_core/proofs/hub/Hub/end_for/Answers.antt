-- One fault more is to be told.
use Rattle.std.proofs.Common.{subst, sym}
use Rattle.hub_core.proofs.Small.{AreSmall, small_with}
use Rattle.hub_core.proofs.hub.Hub.end_for.Goals as goal

pub invariant_of-hub : goal.invariant_of-hub
invariant_of-hub g c = (
  c.hub.invariant.0,
  subst AreSmall (sym c.in_ok-insert.ensures.entries)
      (small_with c.args.connection _ c.hub.inside.faults.entries c.requires c.hub.invariant.1),
  c.hub.invariant.2,
  c.hub.invariant.3,
)
