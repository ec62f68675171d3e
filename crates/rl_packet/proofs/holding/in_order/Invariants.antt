-- The list has the holdings so far.
use Rattle.std.proofs.Common.{◌≡◌, map}
use Rattle.rl_packet.specs.Kept.{holding_at}
use Rattle.rl_packet.proofs.holding.in_order.Given as goal

abbrev pub invariant-loop-place : goal.invariant-loop-place
invariant-loop-place l = l.list.items ≡ map holding_at l.yielded
