use Rattle.std.proofs.Common.{◌≡◌, ℕ, ◌≤◌, ◌++◌}
use Rattle.std.specs.Io.{StartsWith}
use Rattle.pv_binary.specs.Numbers.{varint_in, varint}
use Rattle.pv_binary.proofs.writing.push_varint.Given as goal

abbrev pub invariant-loop-rest : goal.invariant-loop-rest
invariant-loop-rest l =
    ((k : ℕ) × (l.rest ≤ k) × (l.out.items ++ varint_in k l.rest ≡ l.initial.out.items ++ varint l.n))
    × StartsWith l.out.items l.initial.out.items

abbrev pub decreases-loop-rest : goal.decreases-loop-rest
decreases-loop-rest l = l.rest
