-- What stands of a text as a configuration: the state that its schema, its bindings and its watchers make, or the first
-- cause for which it is refused. It is read as a script in text is, and its events are a schema, first if at all,
-- bindings and watchers.
use Rattle.std.specs.Prelude.{◌≡◌, ℕ, List, Option, Some, None}
use Rattle.std.specs.List.{AllByRecursion}
use Rattle.hub_machine.specs.State.{State, opening}
use Rattle.hub_machine.specs.declared.steps.Step.{Step}
use Rattle.hub_machine.specs.declared.steps.Step.TheVariants.{Bind, Watch}
use Rattle.hub_laws.specs.Laws.{AreAllowed}
use Rattle.sc_events.specs.declared.inputs.Form.TheVariants.{Text}
use Rattle.sc_schema.specs.Courses.{IsCourseOfValues}
use Rattle.sc_config.specs.declared.faults.ConfigFault.{ConfigFault}
use Rattle.sc_config.specs.Courses.{Setting, Cause, Course, goes, stops, doing, state_of, cause_in}

abbrev pub IsCourseOf : List ℕ → Course → Type 0
IsCourseOf text course = IsCourseOfValues doing Text text course

-- the step binds a reference, or makes a watcher
abbrev pub SetsUp : Step → Type 0
SetsUp (Bind b) = Unit {0}
SetsUp (Watch x) = Unit {0}
SetsUp e = ⊥

-- the text sets this state, by such steps, each of which met its condition
abbrev pub IsConfigured : List ℕ → State → Type 0
IsConfigured text s =
    (c : Setting) × IsCourseOf text (goes c) × AreAllowed (opening c.schema) c.steps
    × AllByRecursion SetsUp c.steps × (s ≡ state_of c)

-- the text is refused for the cause that a fault tells; where memory ran out, nothing is said
abbrev pub IsRefusedFor : List ℕ → Option Cause → Type 0
IsRefusedFor text None = Unit {0}
IsRefusedFor text (Some cause) = IsCourseOf text (stops cause)

abbrev pub IsRefusedAs : List ℕ → ConfigFault → Type 0
IsRefusedAs text f = IsRefusedFor text (cause_in f)
