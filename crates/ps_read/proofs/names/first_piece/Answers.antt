use Rattle.std.proofs.Common.{ℕ}
use Rattle.ps_read.specs.Names.{is_point}
use Rattle.ps_read.proofs.Passing.{piece_first}
use Rattle.ps_read.proofs.names.first_piece.Goals as goal

pub loop-i-init : goal.loop-i-init
loop-i-init c = piece_first ℕ is_point c.args.bytes.now
