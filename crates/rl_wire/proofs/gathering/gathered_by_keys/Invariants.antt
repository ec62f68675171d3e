-- What is gathered, with what is left before it, becomes what the whole list becomes.
use Rattle.std.proofs.Common.{◌≡◌, length, map}
use Rattle.pv_value.specs.View.{key_and_value}
use Rattle.rl_wire.specs.Crossing.{by_keys}
use Rattle.rl_wire.proofs.Gathers.{entries_onto}
use Rattle.rl_wire.proofs.gathering.gathered_by_keys.Given as goal

abbrev pub invariant-loop-entry : goal.invariant-loop-entry
invariant-loop-entry l =
    entries_onto l.gathered.entries l.entries.items ≡ by_keys (map key_and_value l.fn.entries.items)

abbrev pub decreases-loop-entry : goal.decreases-loop-entry
decreases-loop-entry l = length l.entries.items
