-- Where those alone may be over a limit for whom something waits, nobody is once they were looked at.
use Rattle.std.proofs.Common.{◌∙◌}
use Rattle.hub_core.proofs.Looking.{waiting_looked_at, within_after}
use Rattle.hub_core.proofs.hub.Hub.look_at_waiting.Goals as goal

pub looked-requires : goal.looked-requires
looked-requires g c =
    within_after c.args.self c.in_ok-hub.hub
    (waiting_looked_at c.deref.result.now c.args.self c.in_ok-hub.hub c.requires
    (c.deref.ensures.value ∙ c.in_ok-waiting.ensures) c.in_ok-hub.ensures)

pub returns : goal.returns
returns g c =
    c.looked.ensures
    ∙ waiting_looked_at c.deref.result.now c.args.self c.in_ok-hub.hub c.requires
    (c.deref.ensures.value ∙ c.in_ok-waiting.ensures) c.in_ok-hub.ensures
