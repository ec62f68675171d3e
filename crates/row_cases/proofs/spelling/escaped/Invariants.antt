use Rattle.std.proofs.Common.{map}
use Rattle.row_cases.proofs.Parting.{ArePartsSoFar}
use Rattle.row_cases.proofs.spelling.escaped.Given as goal

-- the parts so far are read
abbrev pub invariant-loop-part : goal.invariant-loop-part
invariant-loop-part l = ArePartsSoFar l.is_behind (map (λ x. x.now) l.yielded) l.out.items
