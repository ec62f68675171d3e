-- Nobody is over a limit once each was looked at.
use Rattle.std.proofs.Common.{◌∙◌}
use Rattle.hub_core.proofs.Looking.{each_looked_at, within_after}
use Rattle.hub_core.proofs.hub.Hub.look_at_each.Goals as goal

pub looked-requires : goal.looked-requires
looked-requires g c =
    within_after c.args.self c.in_ok-hub.hub
    (each_looked_at c.deref.result.now c.args.self c.in_ok-hub.hub (c.deref.ensures.value ∙ c.in_ok-numbers.ensures)
    c.in_ok-hub.ensures)
