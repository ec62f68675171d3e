use Rattle.std.proofs.Common.{◌≡◌, ◌≤◌, length, false}
use Rattle.pv_lex.specs.Gaps.{blank_from}
use Rattle.pv_lex.proofs.gaps.skip_blank.Given as goal

abbrev pub invariant-loop-first : goal.invariant-loop-first
invariant-loop-first l =
    (blank_from l.commas l.in_comment l.rest ≡ blank_from l.commas false l.bytes) × (length l.rest ≤ length l.bytes)

abbrev pub decreases-loop-first : goal.decreases-loop-first
decreases-loop-first l = length l.rest
