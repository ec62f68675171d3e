use Rattle.rl_stream.specs.Courses.{packets_of}
use Rattle.dq_link.proofs.dialling.bytes_have_courses.Goals as goal

pub returns : goal.returns
returns c = λ st are.
    let decider = c.next_is_decided.ensures in
    (packets_of decider.0 st, c.one_course.ensures.told decider.0 decider.1 st are)
