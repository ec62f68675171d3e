use Rattle.srv_cuts.proofs.Cutting.{cut_is_front}
use Rattle.srv_cuts.proofs.cuts_are_fronts.Goals as goal

pub returns : goal.returns
returns c = cut_is_front c.next_is_decided.ensures c.one_course.ensures.told c.one_course.ensures.one
