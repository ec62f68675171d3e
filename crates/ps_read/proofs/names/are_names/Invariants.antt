use Rattle.std.proofs.Common.{◌≡◌, length}
use Rattle.std.specs.List.{list_all}
use Rattle.ps_read.specs.Names.{is_name, is_point}
use Rattle.ps_read.specs.Pieces.{pieces}
use Rattle.ps_read.proofs.names.are_names.Given as goal

abbrev pub invariant-pieces : goal.invariant-pieces
invariant-pieces l = list_all is_name (pieces is_point l.rest) ≡ list_all is_name (pieces is_point l.bytes)

abbrev pub decreases-pieces : goal.decreases-pieces
decreases-pieces l = length l.rest
