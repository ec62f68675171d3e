use Rattle.std.proofs.Common.{length, ◌-◌}
use Rattle.pv_stream.specs.Walks.{IsAt}
use Rattle.pv_stream.proofs.walks.walk.Given as goal

abbrev pub invariant-loop-place : goal.invariant-loop-place
invariant-loop-place l = IsAt l.left l.place l.levels.items

abbrev pub decreases-loop-place : goal.decreases-loop-place
decreases-loop-place l = length l.left - l.place
