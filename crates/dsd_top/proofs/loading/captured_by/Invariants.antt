use Rattle.std.proofs.Common.{◌≡◌, take}
use Rattle.dsd_top.specs.Loading.{told, captured_by}
use Rattle.dsd_top.proofs.loading.captured_by.Given as goal

-- the sum of what the holdings so far capture
abbrev pub invariant-loop-holding : goal.invariant-loop-holding
invariant-loop-holding l = l.sum ≡ told (captured_by (take l.holding-index l.held))
