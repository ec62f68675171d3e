use Rattle.rl_stream.specs.Lemmas.Readers.{deciders_tell, one_course_is}
use Rattle.rl_stream.proofs.laws.one_course.Goals as goal

pub returns : goal.returns
returns c = record { told = deciders_tell; one = one_course_is c.one_next.ensures }
