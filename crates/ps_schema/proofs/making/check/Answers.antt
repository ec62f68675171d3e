use Rattle.std.proofs.Common.{sym}
use Rattle.ps_schema.proofs.Visits.{none_back}
use Rattle.ps_schema.proofs.making.check.Goals as goal

pub returns-in-None-clause-ok : goal.returns-in-None-clause-ok
returns-in-None-clause-ok c = record {
  each_once = c.requires;
  closed = sym c.in_default.ensures;
  guarded = none_back c.args.defs.now (rw c.in-None.is at c.in_ok-name.ensures);
}
