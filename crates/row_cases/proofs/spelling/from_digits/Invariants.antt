use Rattle.std.proofs.Common.{map}
use Rattle.row_cases.specs.Forms.{PartByPart, ArePair}
use Rattle.row_cases.proofs.spelling.from_digits.Given as goal

-- the parts so far are read
abbrev pub invariant-loop-word : goal.invariant-loop-word
invariant-loop-word l = PartByPart ArePair (map (λ x. x.now) l.yielded) l.out.items
