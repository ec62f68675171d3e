use Rattle.std.proofs.Common.{length}
use Rattle.pv_stream.proofs.walks.+arrive_at.Given as goal

abbrev pub decreases-arrive_at : goal.decreases-arrive_at
decreases-arrive_at l = length l.levels.now.items
