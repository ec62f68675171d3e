use Rattle.std.proofs.Common.{◌≡◌, take, map, false}
use Rattle.sr_caveat.specs.Written.{caveat_of}
use Rattle.kp_bound.proofs.bound.caveats_in.Given as goal

abbrev pub invariant-loop-value : goal.invariant-loop-value
invariant-loop-value l = l.caveats.items ≡ map (caveat_of false) (take l.value-index l.values)
