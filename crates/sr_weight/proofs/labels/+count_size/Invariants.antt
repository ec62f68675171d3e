-- What falls in `count_size`.
use Rattle.sr_weight.proofs.labels.+count_size.Given as goal

abbrev pub decreases-count_size : goal.decreases-count_size
decreases-count_size l = l.n
