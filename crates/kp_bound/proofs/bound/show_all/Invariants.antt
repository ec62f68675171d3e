use Rattle.std.proofs.Common.{◌≡◌, take}
use Rattle.kp_bound.specs.Bound.{AreShownOf}
use Rattle.kp_bound.proofs.bound.show_all.Given as goal

abbrev pub invariant-loop-one : goal.invariant-loop-one
invariant-loop-one l = (l.place ≡ l.one-index) × AreShownOf (take l.one-index l.records) l.values.items
