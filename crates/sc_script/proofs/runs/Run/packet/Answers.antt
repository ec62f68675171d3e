use Rattle.sc_script.proofs.runs.Run.packet.Goals as goal

pub returns-in-Turn-clause-run : goal.returns-in-Turn-clause-run
returns-in-Turn-clause-run g c = rw c.in-Turn.is c.turn_sent.ensures.run

pub returns-in-Turn-clause-stop : goal.returns-in-Turn-clause-stop
returns-in-Turn-clause-stop g c = rw c.in-Turn.is c.turn_sent.ensures.stop

pub returns-in-Error-clause-run : goal.returns-in-Error-clause-run
returns-in-Error-clause-run g c = rw c.in-Error.is c.error_sent.ensures.run

pub returns-in-Error-clause-stop : goal.returns-in-Error-clause-stop
returns-in-Error-clause-stop g c = rw c.in-Error.is c.error_sent.ensures.stop
