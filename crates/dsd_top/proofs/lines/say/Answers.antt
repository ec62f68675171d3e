-- What is said of a cause is its line, or a front of it.
use Rattle.dsd_top.proofs.Fronts.{front_of, whole_unless}
use Rattle.dsd_top.proofs.lines.say.Goals as goal

pub returns-clause-said : goal.returns-clause-said
returns-clause-said g c = front_of c.write_line.result _ _ _ c.write_line.ensures.written c.write_line.ensures.front

pub returns-clause-said_all : goal.returns-clause-said_all
returns-clause-said_all g c = λ none.
    whole_unless c.write_line.result _ _ _ _ c.write_line.ensures.written c.write_line.ensures.cause none
