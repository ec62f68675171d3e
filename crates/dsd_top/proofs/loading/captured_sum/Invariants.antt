use Rattle.std.proofs.Common.{◌≡◌, take}
use Rattle.dsd_top.specs.Loading.{told, captured_by, all_held}
use Rattle.dsd_top.proofs.loading.captured_sum.Given as goal

-- the sum of what the holdings of the connections so far capture
abbrev pub invariant-loop-connection : goal.invariant-loop-connection
invariant-loop-connection l = l.sum ≡ told (captured_by (all_held (take l.connection-index l.connections)))
