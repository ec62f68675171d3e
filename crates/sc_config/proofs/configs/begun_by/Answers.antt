use Rattle.std.proofs.Common.{ap, ◌∙◌}
use Rattle.hub_machine.specs.State.{opening}
use Rattle.sc_schema.specs.Lemmas.FaultsPassed.{err_so}
use Rattle.sc_config.proofs.configs.begun_by.Goals as goal

pub returns-in_err-schema_of-clause-stop : goal.returns-in_err-schema_of-clause-stop
returns-in_err-schema_of-clause-stop g c = err_so _ _ _ c.from_residual.ensures.1 c.in_err-schema_of.ensures.refused

pub returns-clause-hub : goal.returns-clause-hub
returns-clause-hub g c = (
  c.in_ok-schema_of.field-0,
  c.in_ok-schema_of.ensures.schema,
  c.in_ok-begin.ensures ∙ ap opening c.new-guards.ensures,
)
