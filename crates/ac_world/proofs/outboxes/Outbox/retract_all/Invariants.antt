use Rattle.std.proofs.Common.{◌≡◌, drop}
use Rattle.ac_world.specs.Outboxes.{retractions}
use Rattle.ac_world.proofs.outboxes.Outbox.retract_all.Given as goal

-- what is left to retract leads to what all leads to
abbrev pub invariant-loop-row : goal.invariant-loop-row
invariant-loop-row l = retractions (drop l.row-index l.rows) l.self ≡ retractions l.rows l.fn.self
