-- Where one alone may be over a limit, nobody is once it was looked at.
use Rattle.std.proofs.Common.{◌∙◌}
use Rattle.hub_core.proofs.Looking.{one_looked_at, within_after}
use Rattle.hub_core.proofs.hub.Hub.look_at.Goals as goal

pub looked-requires : goal.looked-requires
looked-requires g c =
    within_after c.args.self c.in_ok-hub.hub
    (one_looked_at c.args.connection c.args.self c.in_ok-hub.hub c.overrun_of-fault.result c.requires
    c.overrun_of-fault.ensures.fault c.in_ok-hub.ensures)

pub returns : goal.returns
returns g c =
    c.looked.ensures
    ∙ one_looked_at c.args.connection c.args.self c.in_ok-hub.hub c.overrun_of-fault.result c.requires
    c.overrun_of-fault.ensures.fault c.in_ok-hub.ensures
