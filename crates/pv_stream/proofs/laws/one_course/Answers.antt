use Rattle.pv_stream.specs.Lemmas.Deeds.{one_course_is}
use Rattle.pv_stream.proofs.laws.one_course.Goals as goal

pub returns : goal.returns
returns c = one_course_is c.one_next.ensures.one
