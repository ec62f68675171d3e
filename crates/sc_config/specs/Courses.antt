-- The course of a configuration: the schema and the steps that its values make, one after another, or the first cause
-- for which it is refused.
use Rattle.std.specs.Prelude.{ℕ, List, [], ◌∷◌, ◌++◌, ◌==◌, Option, Some, None, if◌then◌else◌}
use Rattle.ps_schema.specs.declared.Definition.{Definition}
use Rattle.sr_caveat.specs.Patterns.{caveats}
use Rattle.lc_guard.specs.Knowing.{all_known}
use Rattle.gk_sturdy.specs.declared.bound.Binding.{Binding}
use Rattle.hub_machine.specs.State.{State}
use Rattle.hub_machine.specs.Machine.{step as step_of}
use Rattle.hub_machine.specs.Replays.{replay}
use Rattle.hub_machine.specs.declared.steps.Step.{Step}
use Rattle.hub_machine.specs.declared.steps.Step.TheVariants as step
use Rattle.hub_machine.specs.declared.steps.Reply.{Reply}
use Rattle.hub_machine.specs.declared.steps.Reply.TheVariants.{Taken}
use Rattle.sc_events.specs.declared.events.ScriptEvent.{ScriptEvent}
use Rattle.sc_events.specs.declared.events.ScriptEvent.TheVariants.{Bind, Schema, Watch}
use Rattle.sc_schema.specs.Courses.{CourseOf, Doing}
pub use Rattle.sc_schema.specs.Courses.{goes, stops}
use Rattle.sc_config.specs.declared.faults.ConfigFault.{ConfigFault}
use Rattle.sc_config.specs.declared.faults.ConfigFault.TheVariants as config

-- ---- how far a configuration is, and what refuses one

-- the schema by which guards judge, and the steps that were made
pub record Setting : Type 0 where
  pub schema : List Definition
  pub steps : List Step

-- value n is none, or none that a configuration has there
pub data Cause : Type 0 where
  bad : (n : ℕ) → Cause

abbrev pub Course : Type 0
Course = CourseOf Setting Cause

abbrev pub beginning : List Definition → Setting
beginning ds = record { schema = ds; steps = [] }

abbrev pub state_of : Setting → State
state_of c = replay c.schema c.steps

-- ---- events

abbrev pub with_step : Step → Setting → Setting
with_step e c = record c { steps = c.steps ++ e ∷ [] }

abbrev pub if_taken : ℕ → Reply → Setting → Course
if_taken n Taken c = goes c
if_taken n answer c = stops (bad n)

-- a reference is bound, or a watcher begins; that has to be taken
abbrev pub set_up : ℕ → Step → Setting → Course
set_up n e c = if_taken n (step_of (state_of c) e).reply (with_step e c)

-- the names of a binding's guards have to be defined
abbrev pub binds : ℕ → Binding → Setting → Course
binds n b c = if all_known c.schema (caveats b.cap.caveats) then set_up n (step.Bind b) c else stops (bad n)

abbrev pub after_event : ℕ → ScriptEvent → Setting → Course
after_event n (Bind b) c = binds n b c
after_event n (Schema text) c = if n == 0 then goes c else stops (bad n)
after_event n (Watch x) c = set_up n (step.Watch x) c
after_event n other c = stops (bad n)

-- a text that is no schema is a bad first value
abbrev pub doing : Doing Setting Cause
doing = record { beginning = beginning; after_event = after_event; bad = bad; no_schema = bad 0 }

-- ---- faults

abbrev pub cause_in : ConfigFault → Option Cause
cause_in (config.Bad n) = Some (bad n)
cause_in config.NoMemory = None
