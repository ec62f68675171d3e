use Rattle.std.proofs.Common.{List, subst}
use Rattle.ps_schema.specs.declared.Definition.{Definition}
use Rattle.sc_script.specs.Runs.{beginning}
use Rattle.sc_script.specs.Keeping.{IsAt}
use Rattle.sc_schema.specs.Lemmas.FaultsPassed.{err_so}
use Rattle.sc_script.proofs.scripts.begun_by.Goals as goal

pub returns-in_err-schema_of-clause-stop : goal.returns-in_err-schema_of-clause-stop
returns-in_err-schema_of-clause-stop g c = err_so _ _ _ c.from_residual.ensures.1 c.in_err-schema_of.ensures.refused

pub returns-clause-run : goal.returns-clause-run
returns-clause-run g c =
    let s = c.in_ok-begin.field-0 in (
      c.in_ok-schema_of.field-0,
      c.in_ok-schema_of.ensures.schema,
      subst (λ (ds : List Definition). IsAt (beginning ds) s) c.new-guards.ensures c.in_ok-begin.ensures,
    )
