use Rattle.std.proofs.Common.{◌≡◌, ◌+◌, length, codes}
use Rattle.ps_read.specs.Clauses.{clauses}
use Rattle.ps_read.specs.Pieces.{pieces}
use Rattle.ps_read.specs.Written.{is_sign}
use Rattle.ps_read.proofs.Firsts.{definitions_first}
use Rattle.ps_read.proofs.clauses.clauses.Given as goal

abbrev pub invariant-clauses : goal.invariant-clauses
invariant-clauses l = record {
  read : definitions_first l.defs.items (clauses l.at (pieces (is_sign (codes ".")) l.rest))
      ≡ clauses l.place (pieces (is_sign (codes ".")) l.values);
  place : l.at + length l.rest ≡ l.place + length l.values;
}

abbrev pub decreases-clauses : goal.decreases-clauses
decreases-clauses l = length l.rest
