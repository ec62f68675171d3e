use Rattle.std.proofs.Common.{◌≡◌}
use Rattle.sc_script.specs.Runs.{Running}
use Rattle.sc_script.specs.Keeping.{IsAt}
use Rattle.sc_script.specs.Leavings.{connections_after}
use Rattle.sc_script.proofs.ran.connections.Given as goal

-- what is left of the connections so far
abbrev pub invariant-loop-earlier : goal.invariant-loop-earlier
invariant-loop-earlier g l =
    (r : Running) → IsAt r l.run → l.connections.items ≡ connections_after r.schema r.steps l.earlier
