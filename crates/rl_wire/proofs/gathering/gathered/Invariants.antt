-- What is gathered, with what is left before it, becomes what the whole list becomes.
use Rattle.std.proofs.Common.{◌≡◌, length}
use Rattle.pv_value.specs.Order.{order}
use Rattle.pv_value.specs.Sets.{ascending_by}
use Rattle.rl_wire.proofs.Gathers.{elements_onto}
use Rattle.rl_wire.proofs.gathering.gathered.Given as goal

abbrev pub invariant-loop-element : goal.invariant-loop-element
invariant-loop-element l = elements_onto l.gathered.keys l.elements.items ≡ ascending_by order l.fn.elements.items

abbrev pub decreases-loop-element : goal.decreases-loop-element
decreases-loop-element l = length l.elements.items
