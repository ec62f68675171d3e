use Rattle.std.proofs.Common.{◌≡◌, take}
use Rattle.ds_shape.proofs.paths.copies.Given as goal

abbrev pub invariant-loop-step : goal.invariant-loop-step
invariant-loop-step l = l.list.items ≡ take l.step-index l.steps
