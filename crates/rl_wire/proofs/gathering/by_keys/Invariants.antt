-- The list has the entries so far.
use Rattle.std.proofs.Common.{◌≡◌, map}
use Rattle.pv_value.specs.View.{key_and_value}
use Rattle.rl_wire.proofs.gathering.by_keys.Given as goal

abbrev pub invariant-loop-key : goal.invariant-loop-key
invariant-loop-key l = map key_and_value l.list.items ≡ l.yielded
