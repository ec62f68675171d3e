-- The row in hand.
use Rattle.std.specs.Prelude.{[]}
use Rattle.hub_machine.specs.State.{State, opening}
use Rattle.hub_machine.specs.Machine.{step}
use Rattle.hub_machine.specs.declared.steps.Step.{Step}
use Rattle.hub_outs.specs.Outs.{OutsState, outs_after}
use Rattle.row_steps.specs.declared.machines.Machine.{Machine}
use Rattle.row_steps.specs.declared.steps.Trial.{Trial}

-- the state of the machine, and what each connection was sent
pub record Hand : Type 0 where
  pub state : State
  pub outs : OutsState

-- nothing was done yet; no name has a definition
abbrev pub first_hand : Hand
first_hand = record { state = opening []; outs = [] }

-- one step more
abbrev pub hand_after : Step → Hand → Hand
hand_after e h = record { state = (step h.state e).state; outs = outs_after e (step h.state e).reply h.outs }

-- ---- as the code holds it

abbrev pub hand_of : Machine → Hand
hand_of machine = record { state = machine.hub; outs = machine.outs }

abbrev pub hand_in : Trial → Hand
hand_in trial = hand_of trial.machine
