use Rattle.std.proofs.Common.{◌≡◌}
use Rattle.ac_world.specs.Outboxes.{posted}
use Rattle.ac_world.proofs.outboxes.Outbox.post.Given as goal

-- what is left to post leads to what all leads to
abbrev pub invariant-loop-target : goal.invariant-loop-target
invariant-loop-target l = posted l.from l.target-iterator l.table ≡ posted l.from l.fn.self l.fn.table
