-- What is made of an input alone, and why nothing is.
use Rattle.std.specs.Prelude.{◌≡◌, ℕ, ◌<◌, List, length}
use Rattle.hub_laws.specs.Settled.{HoldsFromScratch}
use Rattle.sc_events.specs.Limits.{most_input}
use Rattle.sc_events.specs.declared.inputs.Form.{Form as Input}
use Rattle.sc_events.specs.declared.inputs.Form.TheVariants as input
use Rattle.sc_report.specs.Reports.{RanState, report_of}
use Rattle.sc_script.specs.Leavings.{ran_of}
use Rattle.rl_stream.specs.Nexts.{Decider, Decides}
use Rattle.sc_script.specs.Runs.{Cause, bad, limit, config, goes, stops, Running}
use Rattle.sc_script.specs.Scripts.{IsCourseOf}
use Rattle.dsd_top.specs.Forms.{in_form}
use Rattle.dsd_top.specs.Values.{IsBadAt, AreMade}
use Rattle.dsd_top.specs.declared.forms.Form.{Form}
use Rattle.dsd_top.specs.declared.forms.Form.TheVariants as form
use Rattle.dsd_top.specs.declared.words.Making.{Making}
use Rattle.dsd_top.specs.declared.words.Making.TheVariants.{Run, RunText, CanonicalForms, Printed, Written}

-- the input is a script, and such is what its run leaves; where nothing is pending, each live connection holds what is
-- captured from scratch
abbrev pub LeavesSuch : Input → List ℕ → (RanState → Type 0) → Type 0
LeavesSuch input bytes Is =
    (N : Decider) → Decides N → (r : Running) × IsCourseOf N input bytes (goes r)
    × ((k : ℕ) → HoldsFromScratch r.schema k r.steps) × Is (ran_of r.schema r.steps)

-- this is the report of the run of the script that the input is, in the form
abbrev pub IsReported : Input → Form → List ℕ → List ℕ → Type 0
IsReported input form bytes out = LeavesSuch input bytes (λ ran. out ≡ in_form form (report_of ran))

-- the input stops as a script for this cause
abbrev pub StopsFor : Input → List ℕ → Cause → Type 0
StopsFor input bytes c = (N : Decider) → Decides N → IsCourseOf N input bytes (stops c)

-- what is made of the input
abbrev pub IsMadeOf : Making → List ℕ → List ℕ → Type 0
IsMadeOf Run bytes out = IsReported input.Binary form.Written bytes out
IsMadeOf RunText bytes out = IsReported input.Text form.Printed bytes out
IsMadeOf CanonicalForms bytes out = AreMade input.Binary (in_form form.Canonical) bytes out
IsMadeOf Printed bytes out = AreMade input.Binary (in_form form.Printed) bytes out
IsMadeOf Written bytes out = AreMade input.Text (in_form form.Written) bytes out

-- value n of the input is malformed
abbrev pub IsMalformedAt : Making → List ℕ → ℕ → Type 0
IsMalformedAt Run bytes n = StopsFor input.Binary bytes (bad n)
IsMalformedAt RunText bytes n = StopsFor input.Text bytes (bad n)
IsMalformedAt CanonicalForms bytes n = IsBadAt input.Binary bytes n
IsMalformedAt Printed bytes n = IsBadAt input.Binary bytes n
IsMalformedAt Written bytes n = IsBadAt input.Text bytes n

-- of values, limit 1 alone: the input has more than 67,108,864 bytes
abbrev pub IsTooLong : List ℕ → ℕ → Type 0
IsTooLong bytes w = (w ≡ 1) × (most_input < length bytes)

-- limit w is passed
abbrev pub PassesLimit : Making → List ℕ → ℕ → Type 0
PassesLimit Run bytes w = StopsFor input.Binary bytes (limit w)
PassesLimit RunText bytes w = StopsFor input.Text bytes (limit w)
PassesLimit m bytes w = IsTooLong bytes w

-- event n of the input gives what is no schema, or binds by a guard whose name the schema doesn't define
abbrev pub IsUnschemedAt : Making → List ℕ → ℕ → Type 0
IsUnschemedAt Run bytes n = StopsFor input.Binary bytes (config n)
IsUnschemedAt RunText bytes n = StopsFor input.Text bytes (config n)
IsUnschemedAt m bytes n = ⊥
