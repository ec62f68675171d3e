use Rattle.std.proofs.Common.{◌≡◌, ◌+◌, length}
use Rattle.ps_read.specs.Clauses.{with_signs}
use Rattle.ps_read.proofs.Firsts.{patterns_first}
use Rattle.ps_read.proofs.clauses.with_signs.Given as goal

abbrev pub invariant-signs : goal.invariant-signs
invariant-signs l = record {
  read : patterns_first l.all.items (with_signs l.sign l.at l.rest) ≡ with_signs l.sign l.place l.values;
  place : l.at + length l.rest ≡ l.place + length l.values;
}

abbrev pub decreases-signs : goal.decreases-signs
decreases-signs l = length l.rest
