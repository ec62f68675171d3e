use Rattle.std.proofs.Common.{◌≡◌, take, length}
use Rattle.dsd_top.specs.Loading.{told, all_held}
use Rattle.dsd_top.proofs.loading.held_count.Given as goal

-- how many holdings the connections so far have
abbrev pub invariant-loop-connection : goal.invariant-loop-connection
invariant-loop-connection l = l.count ≡ told (length (all_held (take l.connection-index l.connections)))
