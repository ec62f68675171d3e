-- What stands of an input as a script: a run of all its values, or the first cause that stops it. The length of the
-- input is looked at first, and whether a text is UTF-8; then its values in order, each done before the next is judged.
-- The first one may give the schema by which guards judge.
use Rattle.std.specs.Prelude.{◌≡◌, ℕ, ◌<◌, ◌≤◌, ◌⊎◌, List, length, Option, Some, None}
use Rattle.rl_stream.specs.Nexts.{Decider, Decides}
use Rattle.hub_machine.specs.State.{opening}
use Rattle.hub_laws.specs.Laws.{AreAllowed}
use Rattle.sc_report.specs.Reports.{RanState}
use Rattle.sc_events.specs.Limits.{most_input}
use Rattle.sc_events.specs.declared.inputs.Form.{Form}
use Rattle.sc_schema.specs.Courses.{IsCourseOfValues}
use Rattle.sc_script.specs.declared.faults.ScriptFault.{ScriptFault}
use Rattle.sc_script.specs.Runs.{Cause, limit, Course, goes, stops, doing, Running, cause_in}
use Rattle.sc_script.specs.Leavings.{ran_of}

-- no more than 67,108,864 bytes
abbrev pub IsCourseOf : Decider → Form → List ℕ → Course → Type 0
IsCourseOf N form bytes c =
    ((most_input < length bytes) × (c ≡ stops (limit 1)))
    ⊎ ((length bytes ≤ most_input) × IsCourseOfValues (doing N) form bytes c)

-- the input stops for the cause that a fault tells; where memory ran out, nothing is said
abbrev pub StopsWith : Form → List ℕ → Option Cause → Type 0
StopsWith form bytes None = Unit {0}
StopsWith form bytes (Some c) = (N : Decider) → Decides N → IsCourseOf N form bytes (stops c)

abbrev pub StopsAt : Form → List ℕ → ScriptFault → Type 0
StopsAt form bytes f = StopsWith form bytes (cause_in f)

-- the input runs through steps, each of which met its condition, to what is left
abbrev pub LeavesAs : Form → List ℕ → RanState → Type 0
LeavesAs form bytes ran =
    (N : Decider) → Decides N → (r : Running) × IsCourseOf N form bytes (goes r)
    × AreAllowed (opening r.schema) r.steps × (ran ≡ ran_of r.schema r.steps)
