-- Those so far that spread have ended.
use Rattle.std.proofs.Common.{◌≡◌, drop}
use Rattle.hub_machine.specs.Endings.{all_spread_out}
use Rattle.hub_core.proofs.hub.Hub.all_spread_out.Given as goal

-- what is left to be done leads to what all leads to
abbrev pub invariant-loop-spread : goal.invariant-loop-spread
invariant-loop-spread g l =
    all_spread_out (drop l.spread-index l.spreads) l.hub ≡ all_spread_out l.spreads l.fn.self
