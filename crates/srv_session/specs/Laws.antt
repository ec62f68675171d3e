-- What a gate's history over the hub is: a run of the machine, that goes on behind the steps that were done before.
use Rattle.std.specs.Prelude.{◌≡◌, List, [], ◌∷◌, ◌++◌, map}
use Rattle.ps_schema.specs.declared.Definition.{Definition}
use Rattle.turn_gate.specs.declared.view.Entry.{Entry}
use Rattle.turn_gate.specs.History.{after, IsLegal, replies_of}
use Rattle.hub_machine.specs.State.{State, opening}
use Rattle.hub_machine.specs.Machine.{step}
use Rattle.hub_machine.specs.Replays.{replay}
use Rattle.hub_machine.specs.declared.steps.Step.{Step}
use Rattle.hub_machine.specs.declared.steps.Reply.{Reply}
use Rattle.hub_laws.specs.Laws.{AreAllowed}
use Rattle.srv_session.specs.Served.{served_next}
use Rattle.srv_session.specs.declared.served.Served.{Served}
use Rattle.srv_session.specs.declared.served.ServedStep.{ServedStep}

-- the machine's steps of a history
abbrev pub machine_steps : List (Entry ServedStep Reply) → List Step
machine_steps es = map (λ (e : Entry ServedStep Reply). e.step.step) es

-- the replies that the machine gives to these steps, one after another
abbrev pub replies_from : State → List Step → List Reply
replies_from s [] = []
replies_from s (e ∷ es) = (step s e).reply ∷ replies_from (step s e).state es

-- a history goes on with the machine's run behind these steps, from its beginning, where guards judge by this schema
pub record IsRun {X Y Z : Type 0} (ds : List Definition) (before : List Step) (h : Served X Y Z)
    (es : List (Entry ServedStep Reply)) : Type 0 where
  pub state : (after served_next h es).hub ≡ replay ds (before ++ machine_steps es)
  pub allowed : AreAllowed (opening ds) (before ++ machine_steps es)
  pub replies : replies_of es ≡ replies_from (replay ds before) (machine_steps es)

abbrev pub HistoriesAreTheMachines : Type 0 → Type 0 → Type 0 → Type 0
HistoriesAreTheMachines X Y Z =
    (ds : List Definition) (before : List Step) (h : Served X Y Z) (es : List (Entry ServedStep Reply))
    → AreAllowed (opening ds) before → h.hub ≡ replay ds before → IsLegal served_next h es → IsRun ds before h es
