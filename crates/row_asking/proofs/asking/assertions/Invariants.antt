use Rattle.std.proofs.Common.{◌≡◌}
use Rattle.row_asking.specs.Asking.{assertions}
use Rattle.row_asking.proofs.asking.assertions.Given as goal

-- the assertions so far
abbrev pub invariant-loop-i : goal.invariant-loop-i
invariant-loop-i l = l.events.items ≡ assertions l.value l.handle l.i
