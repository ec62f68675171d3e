use Rattle.sc_schema.proofs.Verdicts.{one_verdict, some_verdict}
use Rattle.sc_schema.proofs.laws.one_first_schema.Goals as goal

pub returns : goal.returns
returns c = record {
  one = one_verdict c.one_verdict.ensures.schema c.one_verdict.ensures.fault;
  some = some_verdict;
}
