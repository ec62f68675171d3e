use Rattle.std.proofs.Common.{ap, ◌∙◌}
use Rattle.std.proofs.lemmas.Result.{IfOk-weaker}
use Rattle.hub_machine.specs.State.{opening}
use Rattle.sc_kept.proofs.hub.begun.Goals as goal

pub returns : goal.returns
returns g c =
    IfOk-weaker c.begin.result _ _ (λ s is. is ∙ ap opening (c.new-guards.ensures ∙ c.in_ok-no_schema.ensures))
    c.begin.ensures
