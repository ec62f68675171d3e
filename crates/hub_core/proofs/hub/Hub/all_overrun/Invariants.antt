-- Those so far have ended, where they had to.
use Rattle.std.proofs.Common.{◌≡◌, drop}
use Rattle.hub_machine.specs.Endings.{all_overrun}
use Rattle.hub_core.proofs.hub.Hub.all_overrun.Given as goal

-- what is left to be done leads to what all leads to
abbrev pub invariant-loop-connection : goal.invariant-loop-connection
invariant-loop-connection g l =
    all_overrun (drop l.connection-index l.connections) l.hub ≡ all_overrun l.connections l.fn.self
