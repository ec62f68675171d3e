use Rattle.std.proofs.Common.{◌≡◌, drop}
use Rattle.pv_marks.specs.Marks.{all_mixed}
use Rattle.pv_marks.proofs.marking.all_mixed.Given as goal

-- what is left leads to what all leads to
abbrev pub invariant-loop-byte : goal.invariant-loop-byte
invariant-loop-byte l = all_mixed l.mark (drop l.byte-index l.bytes) ≡ all_mixed l.before l.bytes
