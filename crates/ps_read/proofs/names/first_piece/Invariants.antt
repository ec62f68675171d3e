use Rattle.std.proofs.Common.{◌≡◌, take, drop}
use Rattle.ps_read.specs.Names.{is_point}
use Rattle.ps_read.specs.Pieces.{pieces}
use Rattle.ps_read.proofs.Passing.{in_first}
use Rattle.ps_read.proofs.names.first_piece.Given as goal

abbrev pub invariant-loop-i : goal.invariant-loop-i
invariant-loop-i l =
    in_first (take l.i l.bytes) (pieces is_point (drop l.i l.bytes)) ≡ pieces is_point l.bytes
