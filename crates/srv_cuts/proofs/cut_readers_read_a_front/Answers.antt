use Rattle.srv_cuts.proofs.Committing.{cut_reader}
use Rattle.srv_cuts.proofs.cut_readers_read_a_front.Goals as goal

pub returns : goal.returns
returns c = cut_reader c.cuts_are_fronts.ensures c.one_course.ensures.one
