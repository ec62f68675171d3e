use Rattle.std.proofs.Common.{◌≡◌, drop}
use Rattle.ac_world.specs.Worlds.{all_delivered}
use Rattle.ac_world.proofs.held.Deliveries.take_all.Given as goal

-- what is left to deliver leads to what all leads to
abbrev pub invariant-loop-event : goal.invariant-loop-event
invariant-loop-event l = all_delivered (drop l.event-index l.events) l.self ≡ all_delivered l.events l.fn.self
