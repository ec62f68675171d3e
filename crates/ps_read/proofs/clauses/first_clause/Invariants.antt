use Rattle.std.proofs.Common.{◌≡◌, take, drop, codes}
use Rattle.ps_read.specs.Written.{is_sign}
use Rattle.ps_read.specs.Pieces.{pieces}
use Rattle.ps_read.proofs.Passing.{in_first}
use Rattle.ps_read.proofs.clauses.first_clause.Given as goal

abbrev pub invariant-loop-i : goal.invariant-loop-i
invariant-loop-i l =
    in_first (take l.i l.values) (pieces (is_sign (codes ".")) (drop l.i l.values))
    ≡ pieces (is_sign (codes ".")) l.values
