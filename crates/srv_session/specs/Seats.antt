-- What a seat has done: the steps of its pass, and their replies.
use Rattle.std.specs.Prelude.{List, map}
use Rattle.hub_machine.specs.declared.steps.Step.{Step}
use Rattle.hub_machine.specs.declared.steps.Reply.{Reply}
use Rattle.srv_session.specs.declared.served.ServedStep.{ServedStep}

abbrev pub step_pairs : List (ServedStep × Reply) → List (Step × Reply)
step_pairs ps = map (λ (p : ServedStep × Reply). (p.0.step, p.1)) ps
