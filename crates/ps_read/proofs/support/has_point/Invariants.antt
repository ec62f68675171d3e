use Rattle.std.proofs.Common.{◌≡◌, drop}
use Rattle.ps_read.specs.Written.{has_point}
use Rattle.ps_read.proofs.support.has_point.Given as goal

abbrev pub invariant-loop-byte : goal.invariant-loop-byte
invariant-loop-byte l = has_point (drop l.byte-index l.name) ≡ has_point l.name
