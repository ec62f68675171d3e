-- What was heard up to the limit is told by its number.
use Rattle.out_ports.specs.Ports.{Appends, AppendsFront}
use Rattle.dsd_query.proofs.Ending.{says_limit}
use Rattle.dsd_query.proofs.ends.tell_end.Goals as goal

pub returns-in-Spent-clause-said : goal.returns-in-Spent-clause-said
returns-in-Spent-clause-said g c = λ not. says_limit AppendsFront _ _ c.args.end c.in-Spent.is c.refuse.ensures.said

pub returns-in-Spent-clause-said_all : goal.returns-in-Spent-clause-said_all
returns-in-Spent-clause-said_all g c = λ not quiet.
    says_limit Appends _ _ c.args.end c.in-Spent.is (c.refuse.ensures.said_all quiet)
