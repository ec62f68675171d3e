-- What passed the newest ones so far.
use Rattle.std.proofs.Common.{◌≡◌, ◌-◌, drop, length, Some}
use Rattle.sr_pass.specs.Passing.{passed}
use Rattle.sr_pass.proofs.passing.pass.Given as goal

abbrev pub invariant-loop-left : goal.invariant-loop-left
invariant-loop-left g l =
    Some l.passing ≡ passed (g.J.Judge.schema l.judge) (drop (length l.caveats - l.left) l.caveats) l.value
