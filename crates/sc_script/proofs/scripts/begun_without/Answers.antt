use Rattle.std.proofs.Common.{List, subst, ◌∙◌}
use Rattle.ps_schema.specs.declared.Definition.{Definition}
use Rattle.sc_script.specs.Runs.{beginning}
use Rattle.sc_script.specs.Keeping.{IsAt, RunState}
use Rattle.std.proofs.lemmas.Result.{IfOk-weaker}
use Rattle.sc_script.proofs.scripts.begun_without.Goals as goal

pub returns : goal.returns
returns g c =
    IfOk-weaker c.begin.result _ _
    (λ (s : RunState) at. subst (λ (ds : List Definition). IsAt (beginning ds) s)
    (c.new-guards.ensures ∙ c.in_ok-no_schema.ensures) at) c.begin.ensures
