use Rattle.std.proofs.Common.{◌≡◌}
use Rattle.sc_load.specs.Loads.{events_of, observes}
use Rattle.sc_load.proofs.items.observations.Given as goal

abbrev pub invariant-loop-further : goal.invariant-loop-further
invariant-loop-further l = l.events.items ≡ events_of observes l.first l.further
