-- The hub as a gate holds it: each step is the machine's.
use Rattle.std.specs.Prelude.{ℕ, Option, None, Some, Bool, not}
use Rattle.hub_machine.specs.Machine.{step}
use Rattle.hub_machine.specs.State.{is_there}
use Rattle.hub_machine.specs.declared.steps.Step.{Step}
use Rattle.hub_machine.specs.declared.steps.Step.TheVariants.{Work, Turn}
use Rattle.hub_machine.specs.declared.steps.Reply.{Reply}
use Rattle.srv_turns.specs.Rows.{further_behind}
use Rattle.srv_turns.specs.declared.committing.Behind.{Behind}
use Rattle.srv_session.specs.declared.served.Served.{Served}
use Rattle.srv_session.specs.declared.served.ServedStep.{ServedStep}

abbrev pub served_next : {X Y Z : Type 0} → Served X Y Z → ServedStep → Served X Y Z × Reply
served_next h e = (record h { hub = (step h.hub e.step).state }, (step h.hub e.step).reply)

-- a connection isn't there
abbrev pub served_over : {X Y Z : Type 0} → Served X Y Z → ℕ → Bool
served_over h k = not (is_there k h.hub)

-- work, or a turn, as a step of the gate
abbrev pub served_step : Option Step → Option ServedStep
served_step (Some Work) = Some (record { step = Work; allowed = tt })
served_step (Some (Turn a)) = Some (record { step = Turn a; allowed = tt })
served_step o = None

-- the step that comes next behind one that got this reply, where one does
abbrev pub served_behind : Behind → Reply → Option ServedStep
served_behind b r = served_step (further_behind b r)
