use Rattle.std.proofs.Common.{◌≡◌, length}
use Rattle.pv_binary.specs.Numbers.{minimal}
use Rattle.pv_binary.proofs.writing.without_sign_bytes.Given as goal

abbrev pub invariant-loop-rest : goal.invariant-loop-rest
invariant-loop-rest l = minimal l.rest ≡ minimal l.bytes

abbrev pub decreases-loop-rest : goal.decreases-loop-rest
decreases-loop-rest l = length l.rest
