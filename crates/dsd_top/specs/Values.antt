-- The values of an input one behind another to its end, and what is made of them.
use Rattle.std.specs.Prelude.{◌≡◌, ℕ, ◌<◌, ◌≤◌, true, false, List, length}
use Rattle.pv_value.specs.Plain.{Plain}
use Rattle.sc_events.specs.Limits.{most_input}
use Rattle.sc_events.specs.declared.inputs.Form.{Form as Input}
use Rattle.sc_events.specs.Readings.{AreReadAs}
use Rattle.dsd_top.specs.declared.values.InputFault.{InputFault}
use Rattle.dsd_top.specs.declared.values.InputFault.TheVariants as fault
use Rattle.dsd_top.specs.Forms.{made_of_all}

-- the input is values to its end, and this is what is made of each of them
abbrev pub AreMade : Input → (Plain → List ℕ) → List ℕ → List ℕ → Type 0
AreMade input make bytes out =
    (length bytes ≤ most_input) × (vs : List Plain) × AreReadAs input bytes vs true × (out ≡ made_of_all make vs)

-- after n values the input goes on with none; a text that isn't UTF-8 does so at once
abbrev pub IsBadAt : Input → List ℕ → ℕ → Type 0
IsBadAt input bytes n =
    (length bytes ≤ most_input) × (vs : List Plain) × AreReadAs input bytes vs false × (length vs ≡ n)

-- what a fault says of the input
abbrev pub IsInputFaultOf : Input → List ℕ → InputFault → Type 0
IsInputFaultOf input bytes (fault.Bad n) = IsBadAt input bytes n
IsInputFaultOf input bytes fault.TooLong = most_input < length bytes
IsInputFaultOf input bytes fault.NoMemory = Unit {0}
