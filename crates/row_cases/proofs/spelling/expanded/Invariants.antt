use Rattle.std.proofs.Common.{length, string_bytes}
use denote.Shadow.{shadow}
use denote.Text.{Utf8}
use Rattle.row_cases.proofs.Expanding.{IsSoFar}
use Rattle.row_cases.proofs.spelling.expanded.Given as goal

-- what is written out so far, and the rest
abbrev pub invariant-loop-front : goal.invariant-loop-front
invariant-loop-front l = shadow (Utf8 l.rest) × IsSoFar l.fn.marked l.fn.body l.rest (string_bytes l.out)

abbrev pub decreases-loop-front : goal.decreases-loop-front
decreases-loop-front l = length l.rest
