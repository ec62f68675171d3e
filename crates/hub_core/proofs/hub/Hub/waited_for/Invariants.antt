-- The busy actors are gone through in order.
use Rattle.std.proofs.Common.{◌≡◌, ◌++◌}
use Rattle.hub_core.specs.Work.{waited_for}
use Rattle.hub_core.proofs.Waited.{each_named}
use Rattle.hub_core.proofs.hub.Hub.waited_for.Given as goal

-- those so far, and those that are left
abbrev pub invariant-loop-actor : goal.invariant-loop-actor
invariant-loop-actor g l = l.numbers.items ++ each_named l.actor-iterator l.self ≡ waited_for l.self
