use Rattle.ps_schema.proofs.Visits.{refused_is_none}
use Rattle.ps_schema.proofs.laws.one_verdict.Goals as goal

pub returns : goal.returns
returns c = refused_is_none
