-- The rest of the path leads on from here to where the whole leads.
use Rattle.std.proofs.Common.{◌≡◌, drop}
use Rattle.ds_shape.specs.Paths.{part_at}
use Rattle.ds_shape.proofs.paths.part_at.Given as goal

abbrev pub invariant-loop-step : goal.invariant-loop-step
invariant-loop-step l = part_at (drop l.step-index l.step-items) l.part ≡ part_at l.fn.path l.fn.value
