use Rattle.std.proofs.Common.{map}
use Rattle.row_cases.specs.Forms.{PartByPart, AreDigits}
use Rattle.row_cases.proofs.spelling.from_lines.Given as goal

-- the lines so far are read
abbrev pub invariant-loop-line : goal.invariant-loop-line
invariant-loop-line l = PartByPart AreDigits (map (λ x. x.now) l.yielded) l.out.items
