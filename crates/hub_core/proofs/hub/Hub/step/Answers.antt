-- What is never refused.
use Rattle.hub_machine.specs.Lemmas.Completing.{complete_done}
use Rattle.hub_core.proofs.hub.Hub.step.Goals as goal

pub returns-clause-complete : goal.returns-clause-complete
returns-clause-complete g c = complete_done c.args.self c.args.event (λ done. done.1) _ c.machine_step.ensures.reply
