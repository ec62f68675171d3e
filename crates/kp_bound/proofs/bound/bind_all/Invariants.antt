use Rattle.std.proofs.Common.{◌≡◌, take}
use Rattle.kp_bound.specs.Bound.{AreBindingsOf}
use Rattle.kp_bound.proofs.bound.bind_all.Given as goal

abbrev pub invariant-loop-one : goal.invariant-loop-one
invariant-loop-one l = (l.place ≡ l.one-index) × AreBindingsOf (take l.one-index l.records) l.bindings
