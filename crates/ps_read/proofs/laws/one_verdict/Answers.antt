use Rattle.ps_read.proofs.Verdicts.{one_schema, no_fault_beside}
use Rattle.ps_read.proofs.laws.one_verdict.Goals as goal

pub returns-clause-schema : goal.returns-clause-schema
returns-clause-schema c = one_schema c.texts_are_read_one_way.ensures

pub returns-clause-fault : goal.returns-clause-fault
returns-clause-fault c = no_fault_beside c.texts_are_read_one_way.ensures c.one_verdict.ensures
