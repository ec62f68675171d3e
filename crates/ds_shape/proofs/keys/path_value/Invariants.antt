use Rattle.std.proofs.Common.{◌≡◌, map, take}
use Rattle.ds_shape.specs.Keys.{step_value}
use Rattle.ds_shape.proofs.keys.path_value.Given as goal

abbrev pub invariant-loop-step : goal.invariant-loop-step
invariant-loop-step l = l.values.items ≡ map step_value (take l.step-index l.step-items)
