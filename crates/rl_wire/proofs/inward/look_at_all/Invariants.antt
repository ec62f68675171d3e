-- The first fault of all is that of what is left; and one so far is stale, or one of what is left, where one of all is.
use Rattle.std.proofs.Common.{◌≡◌, ◌||◌, drop}
use Rattle.rl_wire.specs.Crossing.{first_fault, any_stale}
use Rattle.rl_wire.proofs.inward.look_at_all.Given as goal

abbrev pub invariant-loop-x : goal.invariant-loop-x
invariant-loop-x l =
    record {
      faults : first_fault l.ports.exports (drop l.x-index l.held) ≡ first_fault l.ports.exports l.held;
      stale : (any_stale l.ports.exports (drop l.x-index l.held) || l.stale) ≡ any_stale l.ports.exports l.held;
    }
