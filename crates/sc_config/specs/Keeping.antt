-- What is promised of each part of a configuration, from where it is. What is promised of a text speaks of none of it.
use Rattle.std.specs.Prelude.{◌≡◌, Bool, true, false}
use Rattle.std.specs.List.{AllByRecursion}
use Rattle.hub_machine.specs.State.{State, opening}
use Rattle.hub_machine.specs.declared.steps.Reply.{Reply}
use Rattle.hub_machine.specs.declared.steps.Reply.TheVariants as reply
use Rattle.hub_laws.specs.Laws.{AreAllowed}
use Rattle.sc_schema.specs.Courses.{GoesTo, StopsFor}
use Rattle.sc_config.specs.declared.faults.ConfigFault.{ConfigFault}
use Rattle.sc_config.specs.Courses.{Setting, Course, state_of, cause_in}
use Rattle.sc_config.specs.Configs.{SetsUp}

-- the steps set up, and each met its condition; the state is theirs, and guards judge by the schema in it
pub record IsAt (c : Setting) (s : State) : Type 0 where
  pub allowed : AreAllowed (opening c.schema) c.steps
  pub set_up : AllByRecursion SetsUp c.steps
  pub state : s ≡ state_of c
  pub schema : s.world.schema ≡ c.schema

abbrev pub HasSet : Course → State → Type 0
HasSet course s = GoesTo (λ c. IsAt c s) course

abbrev pub IsStopped : Course → ConfigFault → Type 0
IsStopped course f = StopsFor course (cause_in f)

-- the part leads from this state to that one
abbrev pub SetsAs : State → (Setting → Course) → State → Type 0
SetsAs s part t = (c : Setting) → IsAt c s → HasSet (part c) t

abbrev pub StopsAs : State → (Setting → Course) → ConfigFault → Type 0
StopsAs s part f = (c : Setting) → IsAt c s → IsStopped (part c) f

-- what sets the server up was taken, where this was answered
abbrev pub was_taken : Reply → Bool
was_taken reply.Taken = true
was_taken answer = false
